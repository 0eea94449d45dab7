-- Levels in a line. Assumes nothing.
use Rattle.std.specs.Prelude.{ℕ, ◌&&◌, nat_le, nat_lt}
use Rattle.orders.specs.Orders.{Order}

-- of m levels, a dominates b when a is at least b
abbrev pub chain : ℕ → Order
chain m = record { levels = m; dominates = λ a b. nat_lt a m && nat_le b a }
