-- The item at a place of a list of items, the first that does not fit, and the place of a chosen version. Assumes nothing.
use Rattle.std.proofs.Common.{◌≡◌, ℕ, zero, suc, ◌+◌, ◌<◌, ◌≤◌, Bool, true, false, List, [], ◌∷◌, length, get_or, drop, Some, None, Option, MatchOption, sym, refl, ap, ◌∙◌, arith}
use Rattle.std.specs.List.{slice_get}
use Rattle.std.proofs.lemmas.Bool.{cond-true, cond-false}
use Rattle.std.proofs.lemmas.List.{at_drop_more}
use Rattle.std.proofs.lemmas.Option.{same_Some, slice_get-get_or, slice_get_within}
use Rattle.orders.specs.Orders.{Order}
use Rattle.shelves.specs.Items.{Item, first_item}
use Rattle.shelves.specs.declared.version.Version.{Version}
use Rattle.rules.proofs.Rowed.{last_some}
use Rattle.rules.specs.Choices.{last_that}
use Rattle.rules.specs.Starts.{fits_order, unfit_from, unfit}
use Rattle.rules.specs.declared.decision.Chosen.{Chosen}
use Rattle.steps.specs.Traces.{item_at}

pub nth_item : (its : List Item) (x : ℕ) → x < length its → slice_get its x ≡ Some (item_at its x)
nth_item [] x lt = absurd (omega arith)
nth_item (it ∷ its) zero lt = refl
nth_item (it ∷ its) (suc x) lt = nth_item its x (omega arith)

-- a function of the items from x on, where there is an item x
pub at_item : {Y : Type 0} (F : List Item → Y) (its : List Item) (x : ℕ) → x < length its → F (drop x its) ≡ F (item_at its x ∷ drop (x + 1) its)
at_item F its x lt =
    let same : get_or its x (first_item 0 0) ≡ item_at its x = same_Some (get_or its x (first_item 0 0)) (item_at its x) (sym (slice_get-get_or its x (first_item 0 0) lt) ∙ nth_item its x lt) in
    at_drop_more F its x (first_item 0 0) lt ∙ ap (λ it. F (it ∷ drop (x + 1) its)) same

module _ (o : Order) where
  all_fit : (a : ℕ) (its : List Item) → ((k : ℕ) → k < length its → fits_order o (item_at its k) ≡ true) → unfit_from o a its ≡ None
  all_fit a [] fit = refl
  all_fit a (it ∷ its) fit =
      cond-true (fits_order o it) (unfit_from o (a + 1) its) (Some a) (fit zero (omega arith))
      ∙ all_fit (a + 1) its (λ k lt. fit (suc k) (omega arith))

  fit_before : (a : ℕ) (its : List Item) (x : ℕ) → x < length its → fits_order o (item_at its x) ≡ false
      → ((k : ℕ) → k < x → fits_order o (item_at its k) ≡ true) → unfit_from o a its ≡ Some (a + x)
  fit_before a [] x lt not fit = absurd (omega arith)
  fit_before a (it ∷ its) zero lt not fit = cond-false (fits_order o it) (unfit_from o (a + 1) its) (Some a) not ∙ ap (λ n. Some n) (omega arith)
  fit_before a (it ∷ its) (suc x) lt not fit =
      cond-true (fits_order o it) (unfit_from o (a + 1) its) (Some a) (fit zero (omega arith))
      ∙ fit_before (a + 1) its x (omega arith) not (λ k h. fit (suc k) (omega arith))
      ∙ ap (λ n. Some n) (omega arith)

  -- the first unfit item, by what is true of it and of those before it
  pub unfit_found : (its : List Item) (n : ℕ) → n ≡ length its → (found : Option ℕ)
      → MatchOption found ((k : ℕ) → 0 ≤ k → k < n → fits_order o (item_at its k) ≡ true)
      (λ x. (0 ≤ x) × (x < n) × (fits_order o (item_at its x) ≡ false) × ((k : ℕ) → 0 ≤ k → k < x → fits_order o (item_at its k) ≡ true))
      → found ≡ unfit o its
  unfit_found its n all None fit = sym (all_fit 0 its (λ k lt. fit k (omega arith) (omega arith)))
  unfit_found its n all (Some x) is = sym (fit_before 0 its x (omega (arith, is.1)) is.2 (λ k lt. is.3 k (omega arith) lt) ∙ ap (λ n. Some n) (omega arith))

-- a version that was chosen stands in the row
pub chosen_within : (p : Version → Bool) (row : List Version) (r : Option Chosen) (c : Chosen) → r ≡ last_that p row → r ≡ Some c → c.place < length row
chosen_within p row r c is some = slice_get_within row c.place c.version (last_some p row c (sym is ∙ some)).there
