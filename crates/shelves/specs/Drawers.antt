-- What a drawer stands for, and what an edit makes of its memory. Assumes nothing.
use Rattle.std.specs.Prelude.{◌≡◌, ℕ, ◌<◌, List, map, take, Some, slice_set}
use Rattle.std.specs.List.{slice_get}
use Rattle.shelves.specs.declared.drawer.Drawer.{Drawer}
use Rattle.shelves.specs.declared.drawer.Entry.{Entry}
use Rattle.shelves.specs.declared.edit.Edit.{Edit}
use Rattle.shelves.specs.Items.{Item}
use Rattle.shelves.specs.RowEdits.{versions, RowEdited}

abbrev pub entry_item : Entry → Item
entry_item x = record { level = x.level; row = versions x.row }

abbrev pub drawer_items : Drawer → List Item
drawer_items d = map entry_item (take d.count d.entries)

-- y is x after the edit, in all its memory
pub record EntryEdited (e : Edit) (x y : Entry) : Type 0 where
  pub level : y.level ≡ x.level
  pub row : RowEdited e x.row y.row

-- t is d after the edit of item i, in all its memory
pub record DrawerEdited (d : Drawer) (i : ℕ) (e : Edit) (t : Drawer) : Type 0 where
  pub before : Entry
  pub after : Entry
  pub known : i < d.count
  pub found : slice_get d.entries i ≡ Some before
  pub edited : EntryEdited e before after
  pub entries : t.entries ≡ slice_set d.entries i after
  pub count : t.count ≡ d.count
