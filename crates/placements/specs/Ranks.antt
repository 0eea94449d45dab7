-- Stamps in their order, and how many of them a degree passes over. Assumes nothing.
use Rattle.std.specs.Prelude.{ℕ, ◌+◌, ◌*◌, ◌/◌, ◌<◌, ◌≤◌, min, Bool, true, false, cond, ◌&&◌, List, [], ◌∷◌, map, Option, nat_le, nat_lt}
use Rattle.std.specs.List.{ContainsAt as Has, slice_get}
use Rattle.placements.specs.declared.entry.Entry.{Entry}

abbrev pub stamps : List Entry → List ℕ
stamps es = map (λ e. e.stamp) es

-- x into a rising list, before the first that is not smaller
abbrev pub slot : ℕ → List ℕ → List ℕ
slot x [] = x ∷ []
slot x (y ∷ ys) = cond (nat_le x y) (x ∷ y ∷ ys) (y ∷ slot x ys)

-- the same numbers, rising; equal ones are all kept
abbrev pub ascending : List ℕ → List ℕ
ascending [] = []
ascending (x ∷ xs) = slot x (ascending xs)

-- the one with k before it, counting upwards
abbrev pub ranked : List ℕ → ℕ → Option ℕ
ranked xs k = slice_get (ascending xs) k

abbrev pub one_if : Bool → ℕ
one_if true = 1
one_if false = 0

-- how many are below t
abbrev pub below : ℕ → List ℕ → ℕ
below t [] = 0
below t (x ∷ xs) = one_if (nat_lt x t) + below t xs

-- at most k are smaller than s, and more than k are no larger
abbrev pub has_rank : List ℕ → ℕ → ℕ → Bool
has_rank xs k s = nat_le (below s xs) k && nat_lt k (below (s + 1) xs)

-- s has rank k in xs: it is one of them, at most k are smaller, and more than k are no larger
pub record Rank (xs : List ℕ) (k s : ℕ) : Type 0 where
  pub member : Has xs s
  pub smaller : below s xs ≤ k
  pub no_larger : k < below (s + 1) xs

-- d hundredths of n, rounded up; more than a hundred count as a hundred
abbrev pub share : ℕ → ℕ → ℕ
share d n = (min d 100 * n + 99) / 100

-- k is the least number of which a hundred reach d times n
pub record LeastShare (d n k : ℕ) : Type 0 where
  pub reaches : min d 100 * n ≤ 100 * k
  pub least : (j : ℕ) → min d 100 * n ≤ 100 * j → k ≤ j
