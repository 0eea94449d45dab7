-- Which levels count. Assumes nothing.
use Rattle.std.specs.Prelude.{ℕ, Bool}
use Rattle.orders.specs.Orders.{Order}
use Rattle.rules.specs.Watermarks.{strictly_dominates}
use Rattle.choosing.specs.declared.reach.Reach.{Reach}
use Rattle.choosing.specs.declared.reach.Reach.TheVariants.{AtOrBelow, Below}

-- level a is one of those that count for level l
abbrev pub reaches : Order → Reach → ℕ → ℕ → Bool
reaches o AtOrBelow l a = o.dominates l a
reaches o Below l a = strictly_dominates o l a
