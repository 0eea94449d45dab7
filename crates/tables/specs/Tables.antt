-- What a level's table tells, and how it changes. Assumes nothing.
use Rattle.std.specs.Prelude.{ℕ, ◌+◌, cond, List, [], ◌∷◌, replicate, Some, None, Option, ◌==◌, slice_set}
use Rattle.tables.specs.declared.place.Active.{Active}
use Rattle.tables.specs.declared.place.Held.{Held}
use Rattle.tables.specs.declared.place.Place.{Place}
use Rattle.tables.specs.declared.place.Place.TheVariants.{Free, Open}
use Rattle.tables.specs.declared.table.Table.{Table}

-- eight free places, and nothing given yet
abbrev pub empty_table : Table
empty_table = record { number = 0; stamp = 0; places = replicate 8 Free }

-- the first place from a on that holds transaction n
abbrev pub held_from : ℕ → ℕ → List Place → Option Held
held_from n a [] = None
held_from n a (Free ∷ ps) = held_from n (a + 1) ps
held_from n a (Open k t ∷ ps) = cond (k == n) (Some (record { place = a; stamp = t })) (held_from n (a + 1) ps)

abbrev pub held : Table → ℕ → Option Held
held t n = held_from n 0 t.places

-- the first free place from a on
abbrev pub free_from : ℕ → List Place → Option ℕ
free_from a [] = None
free_from a (Free ∷ ps) = Some a
free_from a (Open k t ∷ ps) = free_from (a + 1) ps

abbrev pub first_free : Table → Option ℕ
first_free t = free_from 0 t.places

-- the active transactions of a table of level l, by place
abbrev pub actives : ℕ → List Place → List Active
actives l [] = []
actives l (Free ∷ ps) = actives l ps
actives l (Open n t ∷ ps) = record { level = l; number = n; stamp = t } ∷ actives l ps

-- the table after transaction n with stamp t took a place
abbrev pub filled : Table → ℕ → ℕ → ℕ → Table
filled table at n t = record { number = n; stamp = t; places = slice_set table.places at (Open n t) }

-- the table after a place came free; the last number and stamp stay
abbrev pub freed : Table → ℕ → Table
freed table at = record { number = table.number; stamp = table.stamp; places = slice_set table.places at Free }
