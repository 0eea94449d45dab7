-- An edit that is not accepted leaves all items as they were. Assumes nothing.
use Rattle.std.proofs.Common.{◌≡◌, ℕ, false, List, set, Some, None, Option, refl, ap, ◌∙◌}
use Rattle.std.specs.List.{slice_get}
use Rattle.std.proofs.lemmas.Bool.{cond-false}
use Rattle.shelves.specs.declared.edit.Edit.{Edit}
use Rattle.shelves.specs.Edits.{edited, accepts}
use Rattle.shelves.specs.Items.{Item, accepts_in, accepts_at, item_after, items_with, items_after}
use Rattle.shelves.specs.Fronts.{set_same}

item_kept : (e : Edit) (it : Item) → accepts e it.row ≡ false → item_after e it ≡ it
item_kept e it h = ap (λ v. record { level = it.level; row = v }) (cond-false (accepts e it.row) (edited e it.row) it.row h)

by_item : (items : List Item) (i : ℕ) (e : Edit) (o : Option Item) → slice_get items i ≡ o → accepts_in e o ≡ false → items_with items i e o ≡ items
by_item items i e None h n = refl
by_item items i e (Some it) h n = ap (set items i) (item_kept e it n) ∙ set_same items i it h

pub items_kept : (items : List Item) (i : ℕ) (e : Edit) → accepts_at items i e ≡ false → items_after items i e ≡ items
items_kept items i e n = by_item items i e (slice_get items i) refl n
