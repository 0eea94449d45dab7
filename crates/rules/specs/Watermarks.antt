-- How far back active work still stands: floor, bound, and the one waited for. Assumes nothing.
use Rattle.std.specs.Prelude.{ℕ, ◌+◌, min, Bool, cond, not, ◌&&◌, ◌||◌, List, [], ◌∷◌, ◌++◌, Some, None, Option, ◌==◌, nat_lt}
use Rattle.orders.specs.Orders.{Order}
use Rattle.placements.specs.declared.entry.Entry.{Entry}
use Rattle.tables.specs.Tables.{actives}
use Rattle.tables.specs.declared.place.Active.{Active}
use Rattle.tables.specs.declared.table.Table.{Table}
use Rattle.rules.specs.States.{Parts, State}

-- the active transactions at the levels from a on that pass the test, by level, then place
abbrev pub collected : (ℕ → Bool) → ℕ → List Table → List Active
collected p a [] = []
collected p a (t ∷ ts) = cond (p a) (actives a t.places) [] ++ collected p (a + 1) ts

abbrev pub strictly_dominates : Order → ℕ → ℕ → Bool
strictly_dominates o a b = o.dominates a b && not (a == b)

-- the active transactions at the levels that l dominates
abbrev pub at_or_below : Parts → State → ℕ → List Active
at_or_below P s l = collected (P.order.dominates l) 0 s.tables

-- those at the levels that l strictly dominates
abbrev pub below : Parts → State → ℕ → List Active
below P s l = collected (strictly_dominates P.order l) 0 s.tables

-- the least of c and the stamps
abbrev pub least : ℕ → List Active → ℕ
least c [] = c
least c (x ∷ xs) = least (min c x.stamp) xs

-- the least of the clock and the stamps of all active transactions at levels that l dominates
abbrev pub floor : Parts → State → ℕ → ℕ
floor P s l = least s.clock (at_or_below P s l)

-- the same over the levels that l strictly dominates
abbrev pub bound : Parts → State → ℕ → ℕ
bound P s l = least s.clock (below P s l)

-- x stands before y: by stamp, then level, then number
abbrev pub stands_before : Active → Active → Bool
stands_before x y =
    nat_lt x.stamp y.stamp
    || (x.stamp == y.stamp
    && (nat_lt x.level y.level || (x.level == y.level && nat_lt x.number y.number)))

-- x, or the best so far where x does not stand before it
abbrev pub better : Option Active → Active → Active
better None x = x
better (Some y) x = cond (stands_before x y) x y

-- of the list and the best so far, the one before which no other stands
abbrev pub earliest : Option Active → List Active → Option Active
earliest best [] = best
earliest best (x ∷ xs) = earliest (Some (better best x)) xs

-- the transaction that a reader of an item of level l waits for
abbrev pub waited_for : Parts → State → ℕ → Option Active
waited_for P s l = earliest None (at_or_below P s l)

-- an active transaction as a placement sees it
abbrev pub entry : Active → Entry
entry x = record { level = x.level; stamp = x.stamp }
