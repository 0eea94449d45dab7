-- Worked cases of level orders. Assumes nothing.
use Rattle.std.specs.Prelude.{Bool, not, ◌&&◌, List, [], ◌∷◌}
use Rattle.orders.specs.declared.label.Label.{Label}
use Rattle.orders.specs.Labels.{walled}
use Rattle.orders.specs.Orders.{Order, every}

-- rank 0 with no wall, rank 1 with wall 0, rank 1 with wall 1, rank 2 with both
abbrev pub four_labels : List Label
four_labels =
    record { rank = 0; walls = 0 }
    ∷ record { rank = 1; walls = 1 }
    ∷ record { rank = 1; walls = 2 }
    ∷ record { rank = 2; walls = 3 }
    ∷ []

abbrev pub four_walled : Order
four_walled = walled four_labels

-- of these, neither 1 nor 2 dominates the other, and 3 dominates all
abbrev pub walls_keep_apart : Bool
walls_keep_apart =
    not (four_walled.dominates 1 2) && (not (four_walled.dominates 2 1) && every 4 (four_walled.dominates 3))
