-- How a list stands in fixed memory. Assumes nothing.
use Rattle.std.specs.Prelude.{◌-◌, List, ◌++◌, length, replicate}
use Rattle.placements.specs.declared.entry.Entry.{Entry}
use Rattle.tables.specs.declared.place.Active.{Active}

-- what stands in a place that is not in use
abbrev pub nobody : Active
nobody = record { level = 0; number = 0; stamp = 0 }

abbrev pub no_entry : Entry
no_entry = record { level = 0; stamp = 0 }

-- 128 places: the list, then the same in each that is not in use
abbrev pub in_places : {X : Type 0} → X → List X → List X
in_places vacant xs = xs ++ replicate (128 - length xs) vacant
