-- Floor and bound by the tables that they look at. Assumes nothing.
use Rattle.std.proofs.Common.{◌≡◌, ℕ, ◌+◌, ◌≤◌, Bool, true, false, not, eqb, ◌⊎◌, List, [], ◌∷◌, get_or, refl, ap, inl, inr, arith}
use Rattle.std.proofs.lemmas.Bool.{and_left, cases_Bool}
use Rattle.orders.specs.Orders.{PartialOrder}
use Rattle.tables.specs.Tables.{empty_table}
use Rattle.tables.specs.declared.place.Active.{Active}
use Rattle.tables.specs.declared.place.Place.TheVariants.{Open}
use Rattle.tables.specs.declared.table.Table.{Table}
use Rattle.rules.specs.Characterised.{IsLeast}
use Rattle.rules.specs.Members.{In}
use Rattle.rules.specs.States.{Parts, State, table_at}
use Rattle.rules.specs.Watermarks.{collected, least, floor, bound, at_or_below, below, strictly_dominates}
use Rattle.rules.proofs.Tabled.{collected_in, collected_from, least_is}

-- the least over the levels that pass: what is below all of it, and that it is below each
least_from : (c : ℕ) (p : ℕ → Bool) (ts : List Table) (r : ℕ) → r ≤ c
    → ((a n t : ℕ) → p a ≡ true → In (Open n t) (get_or ts a empty_table).places → r ≤ t) → r ≤ least c (collected p 0 ts)
least_from c p ts r h all = by (least_is c (collected p 0 ts)).one
  where
    by : ((least c (collected p 0 ts) ≡ c) ⊎ ((x : Active) × In x (collected p 0 ts) × (x.stamp ≡ least c (collected p 0 ts)))) → r ≤ least c (collected p 0 ts)
    by (inl e) = omega arith
    by (inr f) =
        let g = collected_from p ts f.0 f.1 in
        let low : r ≤ f.0.stamp = all f.0.level f.0.number f.0.stamp g.0 g.1 in
        omega (arith, f.2)

least_below : (c : ℕ) (p : ℕ → Bool) (ts : List Table) (a n t : ℕ) → p a ≡ true → In (Open n t) (get_or ts a empty_table).places
    → least c (collected p 0 ts) ≤ t
least_below c p ts a n t q i =
    (least_is c (collected p 0 ts)).below (record { level = a; number = n; stamp = t }) (collected_in p ts a n t q i)

pub floor_is : (P : Parts) (s : State) (l : ℕ) → IsLeast s.clock (at_or_below P s l) (floor P s l)
floor_is P s l = least_is s.clock (at_or_below P s l)

pub bound_is : (P : Parts) (s : State) (l : ℕ) → IsLeast s.clock (below P s l) (bound P s l)
bound_is P s l = least_is s.clock (below P s l)

pub floor_from : (P : Parts) (s : State) (l r : ℕ) → r ≤ s.clock
    → ((a n t : ℕ) → P.order.dominates l a ≡ true → In (Open n t) (table_at s a).places → r ≤ t) → r ≤ floor P s l
floor_from P s l r h all = least_from s.clock (P.order.dominates l) s.tables r h all

pub floor_below : (P : Parts) (s : State) (l a n t : ℕ) → P.order.dominates l a ≡ true → In (Open n t) (table_at s a).places
    → floor P s l ≤ t
floor_below P s l a n t q i = least_below s.clock (P.order.dominates l) s.tables a n t q i

pub bound_from : (P : Parts) (s : State) (l r : ℕ) → r ≤ s.clock
    → ((a n t : ℕ) → strictly_dominates P.order l a ≡ true → In (Open n t) (table_at s a).places → r ≤ t) → r ≤ bound P s l
bound_from P s l r h all = least_from s.clock (strictly_dominates P.order l) s.tables r h all

-- what is no level dominates nothing, so nothing is collected below it
none_collected : (p : ℕ → Bool) (a : ℕ) (ts : List Table) → ((b : ℕ) → p b ≡ false) → collected p a ts ≡ []
none_collected p a [] none = refl
none_collected p a (t ∷ ts) none = rw (none a) (none_collected p (a + 1) ts none)

pub no_level_clock : (P : Parts) (s : State) (l : ℕ) → PartialOrder P.order → P.order.levels ≤ l → (floor P s l ≡ s.clock) × (bound P s l ≡ s.clock)
no_level_clock P s l lawful above =
    let none : (b : ℕ) → P.order.dominates l b ≡ false =
    λ b. elim (cases_Bool (P.order.dominates l b)) [ inl q ↦ absurd (omega (arith, lawful.upper_level l b q, above)) | inr q ↦ q ] in (
      ap (least s.clock) (none_collected (P.order.dominates l) 0 s.tables none),
      ap (least s.clock) (none_collected (strictly_dominates P.order l) 0 s.tables (λ b. and_left (P.order.dominates l b) (not (eqb l b)) (none b))),
    )
