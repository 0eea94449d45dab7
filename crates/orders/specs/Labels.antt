-- Labels of a rank and a set of walls, and the order of a list of them. Assumes nothing.
use Rattle.std.specs.Prelude.{◌≡◌, ℕ, ◌≤◌, Bool, true, false, cond, not, ◌&&◌, ◌||◌, List, [], ◌∷◌, ◌++◌, length, Some, None, Option, ◌==◌, bit_and, nat_le, nat_lt}
use Rattle.std.specs.List.{slice_get}
use Rattle.orders.specs.declared.label.Label.{Label}
use Rattle.orders.specs.declared.refusal.OrderRefusal.{OrderRefusal}
use Rattle.orders.specs.declared.refusal.OrderRefusal.TheVariants.{LevelCount, LawBroken}
use Rattle.orders.specs.Bits.{bit}
use Rattle.orders.specs.Orders.{Order}
use Rattle.orders.specs.Refusals.{changed}

-- the set s has every wall of t: what the two share is all of t
abbrev pub includes : ℕ → ℕ → Bool
includes s t = bit_and s t == t

-- a's rank is at least b's, and a has every wall of b
abbrev pub covers : Label → Label → Bool
covers a b = nat_le b.rank a.rank && includes a.walls b.walls

-- the same, wall by wall
pub record Covers (a b : Label) : Type 0 where
  pub rank : b.rank ≤ a.rank
  pub walls : (w : ℕ) → bit b.walls w ≡ true → bit a.walls w ≡ true

-- a covers b where both are labels; where one is missing, nothing is covered
abbrev pub covers_if : Option Label → Option Label → Bool
covers_if (Some a) (Some b) = covers a b
covers_if (Some a) None = false
covers_if None b = false

-- equal in rank and in walls
abbrev pub equal_labels : Label → Label → Bool
equal_labels a b = a.rank == b.rank && a.walls == b.walls

-- l is one of the labels
abbrev pub holds : List Label → Label → Bool
holds [] l = false
holds (x ∷ xs) l = equal_labels x l || holds xs l

-- no two of the labels are equal
abbrev pub distinct : List Label → Bool
distinct [] = true
distinct (x ∷ xs) = not (holds xs x) && distinct xs

-- why one more label is refused: a seventeenth before one that is there already
abbrev pub label_refusal : List Label → Label → Option OrderRefusal
label_refusal ls l = cond (nat_lt (length ls) 16) (cond (holds ls l) (Some LawBroken) None) (Some LevelCount)

-- the labels after one more was asked for
abbrev pub with_label : List Label → Label → List Label
with_label ls l = changed (label_refusal ls l) ls (ls ++ l ∷ [])

-- level k carries the label at place k, and a dominates b when a's label covers b's
abbrev pub walled : List Label → Order
walled ls = record { levels = length ls; dominates = λ a b. covers_if (slice_get ls a) (slice_get ls b) }
