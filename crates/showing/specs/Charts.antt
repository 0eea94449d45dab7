-- What a chart of an order shows. Assumes nothing.
use Rattle.std.specs.Prelude.{ℕ, zero, suc, cond, List, [], ◌++◌, codes}
use Rattle.orders.specs.Orders.{Order}

-- an x where level a dominates level b, otherwise a dot
abbrev pub mark : Order → ℕ → ℕ → List ℕ
mark o a b = cond (o.dominates a b) (codes "  x") (codes "  .")

-- level a's marks in the first n columns
abbrev pub marks : Order → ℕ → ℕ → List ℕ
marks o a zero = []
marks o a (suc n) = marks o a n ++ mark o a n

abbrev pub chart_row : Order → ℕ → List ℕ
chart_row o a = marks o a o.levels
