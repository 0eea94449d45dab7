-- What the check answers. Assumes nothing.
use Rattle.std.specs.Prelude.{ℕ, Bool, false, ◌&&◌, Some, None, Ok, Err, Option, Result, ◌==◌}
use Rattle.shelves.specs.Rows.{is_committed}
use Rattle.shelves.specs.declared.version.Version.{Version}
use Rattle.steps.specs.declared.fit.UnfitItem.{UnfitItem}

-- accepted, or the first unfit item
abbrev pub checked : Option ℕ → Result (Unit {0}) UnfitItem
checked None = Ok tt
checked (Some x) = Err (record { item = x })

-- there is a version, and it is a first value
abbrev pub first_there : Option Version → Bool
first_there None = false
first_there (Some v) = is_committed v.state && (v.number == 0 && (v.stamp == 0 && v.mark == 0))
