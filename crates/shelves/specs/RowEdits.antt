-- What a row of eight places stands for, and what an edit makes of all its memory. Assumes nothing.
use Rattle.std.specs.Prelude.{◌≡◌, ℕ, Bool, true, ◌&&◌, List, [], ◌∷◌, take, nat_le}
use Rattle.shelves.specs.declared.edit.Edit.{Edit}
use Rattle.shelves.specs.declared.row.Row.{Row}
use Rattle.shelves.specs.declared.version.State.TheVariants.{Committed}
use Rattle.shelves.specs.declared.version.Version.{Version}
use Rattle.shelves.specs.Edits.{accepts, count_after, places_after}
use Rattle.shelves.specs.Rows.{keeps_rule}

-- the versions of a row: its first places
abbrev pub versions : Row → List Version
versions r = take r.count r.places

-- a first value: committed, and written and read by nobody
abbrev pub first_row : ℕ → List Version
first_row x = record { number = 0; stamp = 0; mark = 0; state = Committed; value = x } ∷ []

-- whether the first n of eight places are a row
abbrev pub makes_row : List Version → ℕ → Bool
makes_row vs n = nat_le n 8 && keeps_rule (take n vs)

-- r is the row of the first n of eight places
pub record RowMade (vs : List Version) (n : ℕ) (r : Row) : Type 0 where
  pub made : makes_row vs n ≡ true
  pub count : r.count ≡ n
  pub places : r.places ≡ vs

-- s is r after the edit, in all its memory
pub record RowEdited (e : Edit) (r s : Row) : Type 0 where
  pub accepted : accepts e (versions r) ≡ true
  pub count : s.count ≡ count_after e r.count
  pub places : s.places ≡ places_after e r.places
