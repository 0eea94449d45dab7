-- The edits of an end, item by item, are the ruled ones. Assumes nothing.
use Rattle.std.proofs.Common.{◌≡◌, ℕ, ◌+◌, ◌<◌, ◌≤◌, Bool, true, false, cond, eqb, List, [], ◌∷◌, ◌++◌, length, drop, Some, None, Option, sym, refl, ap, ◌∙◌, subst, append_assoc, append-nil, arith}
use Rattle.std.specs.List.{slice_get}
use Rattle.std.proofs.lemmas.List.{at_drop_all, drop-set-lt}
use Rattle.shelves.specs.Items.{Item, level_of, row_of, item_after, items_with, items_after}
use Rattle.shelves.specs.declared.edit.Edit.{Edit}
use Rattle.rules.proofs.Rowed.{length_after}
use Rattle.rules.specs.Choices.{last_that, numbered}
use Rattle.rules.specs.States.{ItemEdit, items_through}
use Rattle.rules.specs.Steps.{end_edit, end_edits}
use Rattle.rules.specs.declared.call.TransactionId.{TransactionId}
use Rattle.rules.specs.declared.decision.Chosen.{Chosen}
use Rattle.steps.specs.declared.end.End.{End}
use Rattle.steps.specs.Ends.{edit_for, item_edits}
use Rattle.steps.specs.Traces.{Traced}
use Rattle.steps.proofs.Found.{at_item}

traced_append : {S : Type 0} (items : S → List Item) (edits : S → ℕ → Edit → S → Type 0) (s m t : S) (xs ys : List ItemEdit)
    → Traced items edits s xs m → Traced items edits m ys t → Traced items edits s (xs ++ ys) t
traced_append items edits s m t [] ys p q = subst (λ u. Traced items edits u ys t) p q
traced_append items edits s m t (e ∷ xs) ys p q = (p.0, p.1, traced_append items edits p.0 m t xs ys p.2 q)

through_append : (its : List Item) (xs ys : List ItemEdit) → items_through its (xs ++ ys) ≡ items_through (items_through its xs) ys
through_append its [] ys = refl
through_append its (e ∷ xs) ys = through_append (items_after its e.item e.edit) xs ys

-- the items behind the one that is edited stay
rest_stays : (its : List Item) (x : ℕ) (e : Edit) (o : Option Item) → drop (x + 1) (items_with its x e o) ≡ drop (x + 1) its
rest_stays its x e None = refl
rest_stays its x e (Some it) = drop-set-lt (x + 1) its x (item_after e it) (omega arith)

drop_ended : (e : End) (l n x : ℕ) (its : List Item) → drop (x + 1) (items_through its (item_edits e l n x its)) ≡ drop (x + 1) its
drop_ended e l n x its = by (eqb (level_of its x) l) (last_that (numbered n) (row_of its x))
  where
    by : (b : Bool) (o : Option Chosen) → drop (x + 1) (items_through its (cond b (end_edit (edit_for e) x o) [])) ≡ drop (x + 1) its
    by true None = refl
    by true (Some c) = rest_stays its x (edit_for e c) (slice_get its x)
    by false o = refl

end_edits_more : (e : End) (l n x : ℕ) (its : List Item) → x < length its
    → end_edits (edit_for e) l n x (drop x its) ≡ item_edits e l n x its ++ end_edits (edit_for e) l n (x + 1) (drop (x + 1) its)
end_edits_more e l n x its lt = at_item (end_edits (edit_for e) l n x) its x lt

module _ {S : Type 0} (items : S → List Item) (edits : S → ℕ → Edit → S → Type 0) (e : End) (u : TransactionId) (start : S) where
  -- what an end does to all items
  pub record Ended (last : S) : Type 0 where
    pub after : items last ≡ items_through (items start) (end_edits (edit_for e) u.level u.number 0 (items start))
    pub traced : Traced items edits start (end_edits (edit_for e) u.level u.number 0 (items start)) last

  -- before item x: the edits that were made, with those of the items that are left, are the ruled ones
  pub record Ending (x : ℕ) (now : S) : Type 0 where
    pub done : List ItemEdit
    pub traced : Traced items edits start done now
    pub after : items now ≡ items_through (items start) done
    pub ruled : done ++ end_edits (edit_for e) u.level u.number x (drop x (items now)) ≡ end_edits (edit_for e) u.level u.number 0 (items start)
    pub count : length (items now) ≡ length (items start)

  pub one_ended : (x : ℕ) (now next : S) → x < length (items now) → Ending x now
      → items next ≡ items_through (items now) (item_edits e u.level u.number x (items now))
      → Traced items edits now (item_edits e u.level u.number x (items now)) next → Ending (x + 1) next
  one_ended x now next lt h after traced =
      let es : List ItemEdit = item_edits e u.level u.number x (items now) in
      let rest : ℕ → List Item → List ItemEdit = end_edits (edit_for e) u.level u.number in
      record {
        done = h.done ++ es;
        traced = traced_append items edits start now next h.done es h.traced traced;
        after = after ∙ ap (λ its. items_through its es) h.after ∙ sym (through_append (items start) h.done es);
        ruled =
            append_assoc h.done es (rest (x + 1) (drop (x + 1) (items next)))
            ∙ ap (λ its. h.done ++ (es ++ rest (x + 1) its)) (ap (drop (x + 1)) after ∙ drop_ended e u.level u.number x (items now))
            ∙ ap (λ all. h.done ++ all) (sym (end_edits_more e u.level u.number x (items now) lt))
            ∙ h.ruled;
        count = ap length after ∙ length_after (items now) es ∙ h.count;
      }

  pub all_ended : (x : ℕ) (now : S) → length (items now) ≤ x → Ending x now → Ended now
  all_ended x now le h =
      let all : List ItemEdit = end_edits (edit_for e) u.level u.number 0 (items start) in
      let done : h.done ≡ all =
      sym (append-nil h.done) ∙ ap (λ es. h.done ++ es) (sym (at_drop_all (end_edits (edit_for e) u.level u.number x) (items now) x le)) ∙ h.ruled in
      record {
        after = h.after ∙ ap (items_through (items start)) done;
        traced = subst (λ es. Traced items edits start es now) done h.traced;
      }
