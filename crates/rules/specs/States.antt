-- What the rules speak of: the parts by their meaning, and the state. Assumes nothing.
use Rattle.std.specs.Prelude.{ℕ, Bool, List, [], ◌∷◌, map, slice_index_or, slice_set}
use Rattle.orders.specs.Orders.{Order}
use Rattle.placements.specs.Placings.{Placing}
use Rattle.shelves.specs.Items.{Item, items_after}
use Rattle.shelves.specs.declared.edit.Edit.{Edit}
use Rattle.tables.specs.Tables.{empty_table}
use Rattle.tables.specs.declared.table.Table.{Table}

-- who dominates whom, and where transactions are placed
pub record Parts : Type 0 where
  pub order : Order
  pub placing : Placing

-- whether the parts fitted, the clock, a table for each level, and the items with their levels and rows
pub record State : Type 0 where
  pub sound : Bool
  pub clock : ℕ
  pub tables : List Table
  pub items : List Item

abbrev pub table_at : State → ℕ → Table
table_at s l = slice_index_or s.tables l empty_table

abbrev pub with_clock : State → ℕ → State
with_clock s c = record { sound = s.sound; clock = c; tables = s.tables; items = s.items }

abbrev pub with_table : State → ℕ → Table → State
with_table s l t = record { sound = s.sound; clock = s.clock; tables = slice_set s.tables l t; items = s.items }

abbrev pub with_items : State → List Item → State
with_items s its = record { sound = s.sound; clock = s.clock; tables = s.tables; items = its }

-- an edit of an item's row
pub record ItemEdit : Type 0 where
  pub item : ℕ
  pub edit : Edit

abbrev pub edits_of : ℕ → List Edit → List ItemEdit
edits_of x es = map (λ e. record { item = x; edit = e }) es

-- the items after a list of edits, each made of what the ones before it left
abbrev pub items_through : List Item → List ItemEdit → List Item
items_through its [] = its
items_through its (e ∷ es) = items_through (items_after its e.item e.edit) es
