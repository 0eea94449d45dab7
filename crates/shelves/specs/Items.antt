-- What a shelf means: a list of items, each with a level and a row. Assumes nothing.
use Rattle.std.specs.Prelude.{◌≡◌, ℕ, ◌≤◌, Bool, true, false, cond, List, [], ◌∷◌, ◌++◌, length, Some, None, Ok, Err, Option, Result, nat_lt, slice_set}
use Rattle.std.specs.List.{AllByRecursion, slice_get}
use Rattle.shelves.specs.declared.edit.Edit.{Edit}
use Rattle.shelves.specs.declared.refusal.ShelfRefusal.{ShelfRefusal}
use Rattle.shelves.specs.declared.refusal.ShelfRefusal.TheVariants.{DrawerFull}
use Rattle.shelves.specs.declared.version.State.TheVariants.{Committed}
use Rattle.shelves.specs.declared.version.Version.{Version}
use Rattle.shelves.specs.Edits.{accepts, row_after}
use Rattle.shelves.specs.Rows.{keeps_rule}

pub record Item : Type 0 where
  pub level : ℕ
  pub row : List Version

-- at most 4,096 items, each with a row that keeps the rule
pub record ShelfLaws (items : List Item) : Type 0 where
  pub few : length items ≤ 4096
  pub ruled : AllByRecursion (λ it. keeps_rule it.row ≡ true) items

-- an item with a first value: committed, and written and read by nobody
abbrev pub first_item : ℕ → ℕ → Item
first_item l x = record {
  level = l;
  row = record { number = 0; stamp = 0; mark = 0; state = Committed; value = x } ∷ [];
}

-- an unknown item has level 0 and no versions
abbrev pub level_in : Option Item → ℕ
level_in None = 0
level_in (Some it) = it.level

abbrev pub row_in : Option Item → List Version
row_in None = []
row_in (Some it) = it.row

abbrev pub level_of : List Item → ℕ → ℕ
level_of items i = level_in (slice_get items i)

abbrev pub row_of : List Item → ℕ → List Version
row_of items i = row_in (slice_get items i)

-- an edit of an unknown item is not accepted
abbrev pub accepts_in : Edit → Option Item → Bool
accepts_in e None = false
accepts_in e (Some it) = accepts e it.row

abbrev pub accepts_at : List Item → ℕ → Edit → Bool
accepts_at items i e = accepts_in e (slice_get items i)

abbrev pub item_after : Edit → Item → Item
item_after e it = record { level = it.level; row = row_after e it.row }

abbrev pub items_with : List Item → ℕ → Edit → Option Item → List Item
items_with items i e None = items
items_with items i e (Some it) = slice_set items i (item_after e it)

-- the items after an edit of item i: its row alone changes, if the edit is accepted
abbrev pub items_after : List Item → ℕ → Edit → List Item
items_after items i e = items_with items i e (slice_get items i)

-- a drawer has room for 64 items
abbrev pub has_room : List Item → Bool
has_room items = nat_lt (length items) 64

abbrev pub add_answer : List Item → Result (Unit {0}) ShelfRefusal
add_answer items = cond (has_room items) (Ok tt) (Err DrawerFull)

-- the items after one more was asked for
abbrev pub items_with_new : List Item → ℕ → ℕ → List Item
items_with_new items l x = cond (has_room items) (items ++ first_item l x ∷ []) items
