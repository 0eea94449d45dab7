-- A shelf after edits, in all its memory. Assumes nothing.
use Rattle.std.specs.Prelude.{◌≡◌, ℕ, Bool, true, false, List, [], ◌∷◌, Some, None, Option}
use Rattle.shelves.specs.Items.{Item, level_of, row_of, accepts_at}
use Rattle.shelves.specs.declared.edit.Edit.{Edit}
use Rattle.shelves.specs.Rows.{is_committed}
use Rattle.shelves.specs.declared.version.Version.{Version}
use Rattle.rules.specs.States.{ItemEdit}

-- the item x of a list
abbrev pub item_at : List Item → ℕ → Item
item_at its x = record { level = level_of its x; row = row_of its x }

abbrev pub edit_at : ℕ → Edit → ItemEdit
edit_at x e = record { item = x; edit = e }

-- t is s after one edit, in all its memory; one that is not accepted leaves it as it was
pub record Edited {S : Type 0} (items : S → List Item) (edits : S → ℕ → Edit → S → Type 0) (s : S) (e : ItemEdit) (t : S) : Type 0 where
  pub accepted : accepts_at (items s) e.item e.edit ≡ true → edits s e.item e.edit t
  pub refused : accepts_at (items s) e.item e.edit ≡ false → t ≡ s

-- t is s after a list of edits
abbrev pub Traced : {S : Type 0} (items : S → List Item) (edits : S → ℕ → Edit → S → Type 0) → S → List ItemEdit → S → Type 0
Traced items edits s [] t = t ≡ s
Traced {S} items edits s (e ∷ es) t = (m : S) × Edited items edits s e m × Traced items edits m es t

-- there is a version, and it is committed
abbrev pub committed_there : Option Version → Bool
committed_there None = false
committed_there (Some v) = is_committed v.state
