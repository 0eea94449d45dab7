-- A table passes the test of the laws exactly when it is a partial order. Assumes nothing.
use Rattle.std.specs.Prelude.{◌≡◌, ℕ, ◌<◌, ◌≤◌, Bool, true, false, ◌&&◌, List, ◌==◌, nat_lt, slice_index, refl}
use Rattle.std.proofs.lemmas.Bool.{and_parts, and_from, ltb-true, eqb-true, eq-eqb}
use Rattle.orders.specs.Bits.{bit}
use Rattle.orders.specs.Orders.{PartialOrder, every, implies, transitive_at, antisymmetric_at, lawful_pair, lawful_level, keeps_laws}
use Rattle.orders.specs.Tables.{tabled}
use Rattle.orders.specs.Every.{every_decides}

-- both sides of a domination are levels
inside : (m : ℕ) (rows : List ℕ) (a b : ℕ) → (tabled m rows).dominates a b ≡ true → (a < m) × (b < m)
inside m rows a b h =
    let p = and_parts (nat_lt a m) (nat_lt b m && bit (slice_index rows a) b) h in
    let q = and_parts (nat_lt b m) (bit (slice_index rows a) b) p.1 in
    (ltb-true a m p.0, ltb-true b m q.0)

implied : (p q r : Bool) → implies (p && q) r ≡ true → p ≡ true → q ≡ true → r ≡ true
implied p q r h i j = rw (i, j) at h

implied_from : (p q r : Bool) → (p ≡ true → q ≡ true → r ≡ true) → implies (p && q) r ≡ true
implied_from true true r f = f refl refl
implied_from true false r f = refl
implied_from false q r f = refl

module _ (m : ℕ) (rows : List ℕ) where
  -- what the test found at a level and at a pair
  at_level : keeps_laws (tabled m rows) ≡ true → (a : ℕ) → a < m
      → ((tabled m rows).dominates a a ≡ true) × (every m (lawful_pair (tabled m rows) a) ≡ true)
  at_level h a ha =
      and_parts ((tabled m rows).dominates a a) (every m (lawful_pair (tabled m rows) a)) ((every_decides (lawful_level (tabled m rows)) m).0 h a ha)

  at_pair : keeps_laws (tabled m rows) ≡ true → (a b : ℕ) → a < m → b < m
      → (antisymmetric_at (tabled m rows) a b ≡ true) × (every m (transitive_at (tabled m rows) a b) ≡ true)
  at_pair h a b ha hb =
      and_parts (antisymmetric_at (tabled m rows) a b) (every m (transitive_at (tabled m rows) a b))
      ((every_decides (lawful_pair (tabled m rows) a) m).0 (at_level h a ha).1 b hb)

  pub passed_lawful : 1 ≤ m → m ≤ 16 → keeps_laws (tabled m rows) ≡ true → PartialOrder (tabled m rows)
  passed_lawful some few h = record {
    some_level = some;
    few_levels = few;
    reflexive = λ a ha. (at_level h a ha).0;
    transitive = λ a b c ab bc.
        let ia = inside m rows a b ab in
        let ic = inside m rows b c bc in
        let t = (every_decides (transitive_at (tabled m rows) a b) m).0 (at_pair h a b ia.0 ia.1).1 c ic.1 in
        implied ((tabled m rows).dominates a b) ((tabled m rows).dominates b c) ((tabled m rows).dominates a c) t ab bc;
    antisymmetric = λ a b ab ba.
        let ia = inside m rows a b ab in
        eqb-true a b (implied ((tabled m rows).dominates a b) ((tabled m rows).dominates b a) (a == b) (at_pair h a b ia.0 ia.1).0 ab ba);
    upper_level = λ a b ab. (inside m rows a b ab).0;
    lower_level = λ a b ab. (inside m rows a b ab).1;
  }

  pub lawful_passes : PartialOrder (tabled m rows) → keeps_laws (tabled m rows) ≡ true
  lawful_passes l =
      (every_decides (lawful_level (tabled m rows)) m).1 (λ a ha.
      and_from ((tabled m rows).dominates a a) (every m (lawful_pair (tabled m rows) a)) (l.reflexive a ha)
      ((every_decides (lawful_pair (tabled m rows) a) m).1 (λ b hb.
      and_from (antisymmetric_at (tabled m rows) a b) (every m (transitive_at (tabled m rows) a b))
      (implied_from ((tabled m rows).dominates a b) ((tabled m rows).dominates b a) (a == b) (λ ab ba. eq-eqb a b (l.antisymmetric a b ab ba)))
      ((every_decides (transitive_at (tabled m rows) a b) m).1 (λ c hc.
      implied_from ((tabled m rows).dominates a b) ((tabled m rows).dominates b c) ((tabled m rows).dominates a c) (l.transitive a b c))))))
