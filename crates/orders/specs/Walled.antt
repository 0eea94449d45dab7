-- What a builder of walls and the order made from it stand for. Assumes nothing.
use Rattle.std.specs.Prelude.{List, take}
use Rattle.orders.specs.declared.label.Label.{Label}
use Rattle.orders.specs.declared.walls.Walls.{Walls}
use Rattle.orders.specs.declared.walls.WallsBuilder.{WallsBuilder}
use Rattle.orders.specs.Labels.{walled}
use Rattle.orders.specs.Orders.{Order}

-- the labels taken so far, in their order
abbrev pub labels_of : WallsBuilder → List Label
labels_of b = take b.count b.labels

abbrev pub walls_order : Walls → Order
walls_order w = walled (labels_of w.built)
