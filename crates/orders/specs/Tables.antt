-- Orders given bit by bit. Assumes nothing.
use Rattle.std.specs.Prelude.{ℕ, cond, ◌&&◌, List, Some, None, Option, nat_lt, slice_index}
use Rattle.orders.specs.declared.refusal.OrderRefusal.{OrderRefusal}
use Rattle.orders.specs.declared.refusal.OrderRefusal.TheVariants.{LawBroken}
use Rattle.orders.specs.Bits.{bit}
use Rattle.orders.specs.Orders.{Order, keeps_laws}
use Rattle.orders.specs.Refusals.{count_refusal, or_else}

-- of m levels, a dominates b when bit b of row a is 1; rows and bits from m on mean nothing
abbrev pub tabled : ℕ → List ℕ → Order
tabled m rows = record { levels = m; dominates = λ a b. nat_lt a m && (nat_lt b m && bit (slice_index rows a) b) }

-- why a table is refused: its number of levels before a broken law
abbrev pub table_refusal : ℕ → List ℕ → Option OrderRefusal
table_refusal m rows = or_else (count_refusal m) (cond (keeps_laws (tabled m rows)) None (Some LawBroken))
