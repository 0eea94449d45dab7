-- What an accepted edit makes of all bytes. Assumes nothing.
use Rattle.std.specs.Prelude.{◌≡◌, ℕ, ◌<◌, true, List}
use Rattle.shelves.specs.Edits.{accepts}
use Rattle.shelves.specs.RowEdits.{versions, RowEdited}
use Rattle.shelves.specs.declared.edit.Edit.{Edit}
use Rattle.shelves.specs.declared.edit.Edit.TheVariants.{Put, Insert, Remove}
use Rattle.shelves.specs.declared.row.Row.{Row}
use Rattle.fields.specs.Fields.{byte}
use Rattle.image.specs.Layout.{item_count, item_at}
use Rattle.fields.specs.Written.{VersionFits}
use Rattle.image.specs.Writes.{bytes_after}

-- the numbers of a new version fit their bytes
abbrev pub EditFits : Edit → Type 0
EditFits (Put p v) = VersionFits v
EditFits (Insert p v) = VersionFits v
EditFits (Remove p) = Unit {0}

-- the row of item i of the image bs, and what the edit makes of it
pub record RowsEdited (bs : List ℕ) (i : ℕ) (e : Edit) (rows : Row × Row) : Type 0 where
  pub known : i < item_count bs
  pub row : versions rows.0 ≡ (item_at bs i).row
  pub edited : RowEdited e rows.0 rows.1

-- cs are the bytes after an accepted edit of item i of the image bs
pub record BytesEdited (bs : List ℕ) (i : ℕ) (e : Edit) (cs : List ℕ) : Type 0 where
  pub known : i < item_count bs
  pub accepted : accepts e (item_at bs i).row ≡ true
  pub fits : EditFits e
  pub small : (k : ℕ) → byte bs k < 256
  pub bytes : cs ≡ bytes_after bs i e
