-- Worked cases of degrees. Assumes nothing.
use Rattle.std.specs.Prelude.{Bool, ◌&&◌, List, [], ◌∷◌, ◌==◌}
use Rattle.placements.specs.declared.entry.Entry.{Entry}
use Rattle.placements.specs.Placings.{by_degree}
use Rattle.placements.specs.Ranks.{share}

-- 60 hundredths of 101 are 61, rounded up
abbrev pub share_rounds_up : Bool
share_rounds_up = share 60 101 == 61

-- three transactions of level 0, at the stamps 3, 5 and 8
abbrev pub three_entries : List Entry
three_entries = record { level = 0; stamp = 3 } ∷ record { level = 0; stamp = 5 } ∷ record { level = 0; stamp = 8 } ∷ []

-- from 1 to 9, each degree passes over its share of them
abbrev pub degrees_pass_over : Bool
degrees_pass_over =
    (by_degree 0 1 9 three_entries == 3)
    && (by_degree 33 1 9 three_entries == 5
    && (by_degree 34 1 9 three_entries == 8
    && by_degree 67 1 9 three_entries == 9))
