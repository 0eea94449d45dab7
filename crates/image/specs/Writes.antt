-- What is written of versions, and all bytes after an edit. Assumes nothing.
use Rattle.std.specs.Prelude.{ℕ, ◌+◌, ◌*◌, cond, List, [], ◌∷◌, ◌++◌, length, nat_lt, slice_set}
use Rattle.std.specs.List.{AllByRecursion}
use Rattle.shelves.specs.Edits.{blank, edited}
use Rattle.shelves.specs.Items.{Item}
use Rattle.shelves.specs.declared.edit.Edit.{Edit}
use Rattle.shelves.specs.declared.version.Version.{Version}
use Rattle.fields.specs.Written.{row_bytes, pasted, VersionFits}
use Rattle.image.specs.Layout.{used_at, row_start, item_at}

-- what is written behind a row of m versions where there were n before: zeros into a place that came free
abbrev pub freed : ℕ → ℕ → List Version
freed n m = cond (nat_lt m n) (blank ∷ []) []

-- all bytes after an accepted edit of item i
abbrev pub bytes_after : List ℕ → ℕ → Edit → List ℕ
bytes_after bs i e =
    let row : List Version = edited e (item_at bs i).row in
    slice_set (pasted bs (row_start bs i) (row_bytes (row ++ freed (used_at bs i) (length row)))) (9 + 2 * i) (length row)

-- the numbers of all versions of an item fit their bytes
abbrev pub RowFits : Item → Type 0
RowFits it = AllByRecursion VersionFits it.row
