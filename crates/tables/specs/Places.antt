-- What a place tells. Assumes nothing.
use Rattle.std.specs.Prelude.{ℕ, cond, Bool, true, false, Some, None, Option, ◌==◌}
use Rattle.tables.specs.declared.place.Place.{Place}
use Rattle.tables.specs.declared.place.Place.TheVariants.{Free, Open}

abbrev pub is_free : Place → Bool
is_free Free = true
is_free (Open k t) = false

-- the stamp of transaction n, if the place holds it
abbrev pub stamp_of : ℕ → Place → Option ℕ
stamp_of n Free = None
stamp_of n (Open k t) = cond (k == n) (Some t) None
