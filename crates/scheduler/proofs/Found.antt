-- A step of an active transaction goes on with the item that it names, if there is one. Assumes nothing.
use Rattle.std.proofs.Common.{◌≡◌, ℕ, ◌<◌, ◌≤◌, length, Some, None, Option, Ok, Err, Result, ap, refl, sym, ◌∙◌}
use Rattle.std.specs.List.{slice_get}
use Rattle.std.proofs.lemmas.Option.{same_Some, slice_get_past, slice_get_within}
use Rattle.shelves.specs.Items.{Item}
use Rattle.tables.specs.declared.place.Held.{Held}
use Rattle.rules.specs.States.{State}
use Rattle.rules.specs.Steps.{and_then, known, item_of}
use Rattle.rules.specs.declared.refusal.Refusal.{Refusal}
use Rattle.rules.specs.declared.refusal.Refusal.TheVariants.{UnknownItem}
use Rattle.steps.specs.Traces.{item_at}
use Rattle.steps.proofs.Found.{nth_item}

-- there is an item x, or none
pub item_known : (s : State) (x : ℕ) → x < length s.items → item_of s x ≡ Ok (item_at s.items x)
item_known s x lt = ap (λ o. known o UnknownItem) (nth_item s.items x lt)

pub item_unknown : (s : State) (x : ℕ) → length s.items ≤ x → item_of s x ≡ Err UnknownItem
item_unknown s x le = ap (λ o. known o UnknownItem) (slice_get_past s.items x le)

module _ {B : Type 0} (s : State) (x : ℕ) (f : Held → Item → Result B Refusal) where
  with_item : (h : Held) (o : Option Item) → slice_get s.items x ≡ o → and_then (known o UnknownItem) (f h) ≡ and_then (and_then (known o UnknownItem) (λ _. Ok h)) (λ k. f k (item_at s.items x))
  with_item h None is = refl
  with_item h (Some it) is =
      ap (f h) (same_Some it (item_at s.items x) (sym is ∙ nth_item s.items x (slice_get_within s.items x it is)))

  -- the sender and the item are asked for first
  pub asked_first : (r : Result Held Refusal)
      → and_then r (λ k. and_then (item_of s x) (f k)) ≡ and_then (and_then r (λ k. and_then (item_of s x) (λ _. Ok k))) (λ k. f k (item_at s.items x))
  asked_first (Err e) = refl
  asked_first (Ok h) = with_item h (slice_get s.items x) refl
