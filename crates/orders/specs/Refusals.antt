-- The refusals of whoever sets up an order, and what a constructor answers. Assumes nothing.
use Rattle.std.specs.Prelude.{ℕ, cond, ◌&&◌, Some, None, Ok, Err, Option, Result, nat_le}
use Rattle.orders.specs.declared.refusal.OrderRefusal.{OrderRefusal}
use Rattle.orders.specs.declared.refusal.OrderRefusal.TheVariants.{LevelCount, LawBroken}

-- the number under which a refusal is known outside
abbrev pub number : OrderRefusal → ℕ
number LevelCount = 1
number LawBroken = 2

-- an order has 1 to 16 levels
abbrev pub count_refusal : ℕ → Option OrderRefusal
count_refusal m = cond (nat_le 1 m && nat_le m 16) None (Some LevelCount)

-- the first of two refusals
abbrev pub or_else : Option OrderRefusal → Option OrderRefusal → Option OrderRefusal
or_else (Some e) next = Some e
or_else None next = next

-- what is answered: the refusal if there is one, otherwise the value
abbrev pub unless : {X : Type 0} → Option OrderRefusal → X → Result X OrderRefusal
unless None x = Ok x
unless (Some e) x = Err e

-- what is left behind: the new value, or the old one if there is a refusal
abbrev pub changed : {X : Type 0} → Option OrderRefusal → X → X → X
changed None old new = new
changed (Some e) old new = old

-- an answer by its meaning
abbrev pub meant : {X Y : Type 0} → (X → Y) → Result X OrderRefusal → Result Y OrderRefusal
meant f (Ok x) = Ok (f x)
meant f (Err e) = Err e
