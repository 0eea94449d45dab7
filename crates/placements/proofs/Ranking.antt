-- The stamp that has k others before it is the one at which the counts of smaller and of no larger stamps lie on both
-- sides of k; the counts do not depend on the order. Assumes nothing.
use Rattle.std.proofs.Common.{◌≡◌, ℕ, zero, suc, ◌+◌, ◌<◌, ◌≤◌, Bool, true, false, ltb, leb, List, [], ◌∷◌, length, get_or, MatchOption, Option, Some, None, sum_by, sym, refl, ap, ◌∙◌, subst, inl, inr, arith}
use Rattle.std.specs.List.{AllByRecursion, AllWithin, HoldsAt, slice_get}
use Rattle.std.specs.List.Sorted.{IsPermutation}
use Rattle.std.proofs.lemmas.Option.{none-some, same_Some}
use Rattle.std.proofs.ByRecursion.{All-weaker, All-from_get_or}
use Rattle.std.proofs.lemmas.List.{length-map}
use Rattle.std.proofs.lemmas.List.Sorted.{length_permutation, sum_by-IsPermutation}
use Rattle.std.proofs.lemmas.List.Sums.{sum_by-cons}
use Rattle.std.proofs.lemmas.Bool.{and_parts, and_from, leb-true, leb-false, ltb-true, le-leb, lt-ltb, le-ltb, cases_lt, cases_order, both_ways, cond_both}
use Rattle.std.proofs.lemmas.Option.{slice_get-get_or, slice_get_past}
use Rattle.placements.specs.declared.entry.Entry.{Entry}
use Rattle.placements.specs.Ranks.{stamps, slot, one_if, ascending, ranked, below, has_rank, Rank}

all_at : (P : ℕ → Type 0) (xs : List ℕ) (k s : ℕ) → slice_get xs k ≡ Some s → AllByRecursion P xs → P s
all_at P [] k s h a = absurd (none-some s h)
all_at P (x ∷ xs) zero s h a = let Q : ℕ → Type 0 = P in subst Q (same_Some x s h) a.0
all_at P (x ∷ xs) (suc k) s h a = all_at P xs k s h a.1

-- sorting keeps the length, the counts and what holds of each
length_slot : (x : ℕ) (ys : List ℕ) → length (slot x ys) ≡ suc (length ys)
length_slot x [] = refl
length_slot x (y ∷ ys) =
    cond_both (leb x y) (x ∷ y ∷ ys) (y ∷ slot x ys) (λ zs. length zs ≡ suc (suc (length ys))) (λ _. refl) (λ _. ap suc (length_slot x ys))

length_ascending : (xs : List ℕ) → length (ascending xs) ≡ length xs
length_ascending [] = refl
length_ascending (x ∷ xs) = length_slot x (ascending xs) ∙ ap suc (length_ascending xs)

below_slot : (t x : ℕ) (ys : List ℕ) → below t (slot x ys) ≡ below t (x ∷ ys)
below_slot t x [] = refl
below_slot t x (y ∷ ys) =
    cond_both (leb x y) (x ∷ y ∷ ys) (y ∷ slot x ys) (λ zs. below t zs ≡ below t (x ∷ y ∷ ys)) (λ _. refl) (λ _. omega (arith, below_slot t x ys))

below_ascending : (t : ℕ) (xs : List ℕ) → below t (ascending xs) ≡ below t xs
below_ascending t [] = refl
below_ascending t (x ∷ xs) = below_slot t x (ascending xs) ∙ ap (λ n. one_if (ltb x t) + n) (below_ascending t xs)

all_slot : (P : ℕ → Type 0) (x : ℕ) (ys : List ℕ) → P x → AllByRecursion P ys → AllByRecursion P (slot x ys)
all_slot P x [] h a = (h, tt)
all_slot P x (y ∷ ys) h a =
    cond_both (leb x y) (x ∷ y ∷ ys) (y ∷ slot x ys) (AllByRecursion P) (λ _. (h, a)) (λ _. (a.0, all_slot P x ys h a.1))

all_ascending : (P : ℕ → Type 0) (xs : List ℕ) → AllByRecursion P xs → AllByRecursion P (ascending xs)
all_ascending P [] a = tt
all_ascending P (x ∷ xs) a = all_slot P x (ascending xs) a.0 (all_ascending P xs a.1)

-- each is at most all behind it
abbrev Rising : List ℕ → Type 0
Rising [] = Unit {0}
Rising (x ∷ xs) = AllByRecursion (λ y. x ≤ y) xs × Rising xs

rising_slot : (x : ℕ) (ys : List ℕ) → Rising ys → Rising (slot x ys)
rising_slot x [] r = (tt, tt)
rising_slot x (y ∷ ys) r =
    cond_both (leb x y) (x ∷ y ∷ ys) (y ∷ slot x ys) Rising
    (λ e. let l : x ≤ y = leb-true x y e in
    ((l, All-weaker (λ z. y ≤ z) (λ z. x ≤ z) (λ z h. omega arith) ys r.0), r))
    (λ e. let l : y < x = leb-false x y e in
    (all_slot (λ z. y ≤ z) x ys (omega arith) r.0, rising_slot x ys r.1))

rising_ascending : (xs : List ℕ) → Rising (ascending xs)
rising_ascending [] = tt
rising_ascending (x ∷ xs) = rising_slot x (ascending xs) (rising_ascending xs)

-- the counts
counted : (x t : ℕ) → x < t → one_if (ltb x t) ≡ 1
counted x t h = ap one_if (lt-ltb x t h)

passed_over : (x t : ℕ) → t ≤ x → one_if (ltb x t) ≡ 0
passed_over x t h = ap one_if (le-ltb x t h)

at_most_one : (b : Bool) → one_if b ≤ 1
at_most_one true = omega arith
at_most_one false = omega arith

none_below : (t : ℕ) (xs : List ℕ) → AllByRecursion (λ x. t ≤ x) xs → below t xs ≡ 0
none_below t [] a = refl
none_below t (x ∷ xs) a = omega (arith, passed_over x t a.0, none_below t xs a.1)

below_all : (t : ℕ) (xs : List ℕ) → below t xs ≤ length xs
below_all t [] = omega arith
below_all t (x ∷ xs) = omega (arith, at_most_one (ltb x t), below_all t xs)

counts_rise : (s t x : ℕ) → s < t → one_if (ltb x (s + 1)) ≤ one_if (ltb x t)
counts_rise s t x h =
    elim (cases_lt x (s + 1)) [
      | inl l ↦ omega (arith, counted x t (omega arith), at_most_one (ltb x (s + 1)))
      | inr l ↦ omega (arith, passed_over x (s + 1) l)
    ]

below_rises : (s t : ℕ) (xs : List ℕ) → s < t → below (s + 1) xs ≤ below t xs
below_rises s t [] h = omega arith
below_rises s t (x ∷ xs) h = omega (arith, counts_rise s t x h, below_rises s t xs h)

-- the counts lie on both sides of k
record Between (xs : List ℕ) (k s : ℕ) : Type 0 where
  smaller : below s xs ≤ k
  no_larger : k < below (s + 1) xs

one_between : (xs : List ℕ) (k s t : ℕ) → Between xs k s → Between xs k t → s ≡ t
one_between xs k s t p q =
    elim (cases_order s t) [
      | inl e ↦ e
      | inr d ↦ elim d [
        | inl l ↦ absurd (omega (arith, below_rises s t xs l, p.no_larger, q.smaller))
        | inr l ↦ absurd (omega (arith, below_rises t s xs l, q.no_larger, p.smaller))
      ]
    ]

-- in a rising list, at each place
between_rising : (ys : List ℕ) → Rising ys → (k s : ℕ) → slice_get ys k ≡ Some s → Between ys k s
between_rising [] r k s h = absurd (none-some s h)
between_rising (y ∷ zs) r zero s h =
    let e : y ≡ s = same_Some y s h in
    record {
      smaller = omega (arith, e, passed_over y s (omega (arith, e)), none_below s zs (rw e at r.0));
      no_larger = omega (arith, counted y (s + 1) (omega (arith, e)));
    }
between_rising (y ∷ zs) r (suc k) s h =
    let p = between_rising zs r.1 k s h in
    let l : y ≤ s = all_at (λ z. y ≤ z) zs k s h r.0 in
    record {
      smaller = omega (arith, p.smaller, at_most_one (ltb y s));
      no_larger = omega (arith, p.no_larger, counted y (s + 1) (omega arith));
    }

ranked_between : (xs : List ℕ) (k s : ℕ) → ranked xs k ≡ Some s → Between xs k s
ranked_between xs k s h =
    let p = between_rising (ascending xs) (rising_ascending xs) k s h in
    record {
      smaller = omega (arith, p.smaller, below_ascending s xs);
      no_larger = omega (arith, p.no_larger, below_ascending (s + 1) xs);
    }

ranked_some : (xs : List ℕ) (k : ℕ) → k < length xs → ranked xs k ≡ Some (get_or (ascending xs) k 0)
ranked_some xs k h = slice_get-get_or (ascending xs) k 0 (omega (arith, length_ascending xs))

between_ranked : (xs : List ℕ) (k s : ℕ) → Between xs k s → ranked xs k ≡ Some s
between_ranked xs k s p =
    let some = ranked_some xs k (omega (arith, p.no_larger, below_all (s + 1) xs)) in
    some ∙ ap Some (one_between xs k (get_or (ascending xs) k 0) s (ranked_between xs k (get_or (ascending xs) k 0) some) p)

ranked_none : (xs : List ℕ) (k : ℕ) → length xs ≤ k → ranked xs k ≡ None
ranked_none xs k h = slice_get_past (ascending xs) k (omega (arith, length_ascending xs))

has_between : (xs : List ℕ) (k s : ℕ) → has_rank xs k s ≡ true → Between xs k s
has_between xs k s h =
    let p = and_parts (leb (below s xs) k) (ltb k (below (s + 1) xs)) h in
    record { smaller = leb-true (below s xs) k p.0; no_larger = ltb-true k (below (s + 1) xs) p.1 }

between_has : (xs : List ℕ) (k s : ℕ) → Between xs k s → has_rank xs k s ≡ true
between_has xs k s p =
    and_from (leb (below s xs) k) (ltb k (below (s + 1) xs)) (le-leb (below s xs) k p.smaller) (lt-ltb k (below (s + 1) xs) p.no_larger)

-- where no stamp has the rank, there are too few
too_few : (xs : List ℕ) (k : ℕ) → AllByRecursion (λ s. has_rank xs k s ≡ false) xs → length xs ≤ k
too_few xs k none =
    elim (cases_lt k (length xs)) [
      | inl h ↦
          let s : ℕ = get_or (ascending xs) k 0 in
          let some = ranked_some xs k h in
          let not : has_rank xs k s ≡ false =
          all_at (λ t. has_rank xs k t ≡ false) (ascending xs) k s some (all_ascending (λ t. has_rank xs k t ≡ false) xs none) in
          absurd (both_ways (has_rank xs k s) not (between_has xs k s (ranked_between xs k s some)))
      | inr h ↦ h
    ]

-- equal counts give equal ranks
same_counts : (xs ys : List ℕ) → length ys ≡ length xs → ((t : ℕ) → below t ys ≡ below t xs) → (k : ℕ) → ranked xs k ≡ ranked ys k
same_counts xs ys len counts k =
    elim (cases_lt k (length xs)) [
      | inl h ↦
          let s : ℕ = get_or (ascending xs) k 0 in
          let some = ranked_some xs k h in
          let p = ranked_between xs k s some in
          let q : Between ys k s = record {
            smaller = omega (arith, p.smaller, counts s);
            no_larger = omega (arith, p.no_larger, counts (s + 1));
          } in
          some ∙ sym (between_ranked ys k s q)
      | inr h ↦ ranked_none xs k h ∙ sym (ranked_none ys k (omega (arith, len)))
    ]

pub below_sum : (t : ℕ) (es : List Entry) → below t (stamps es) ≡ sum_by (λ e. one_if (ltb e.stamp t)) es
below_sum t [] = refl
below_sum t (e ∷ es) = ap (λ n. one_if (ltb e.stamp t) + n) (below_sum t es) ∙ sym (sum_by-cons (λ f. one_if (ltb f.stamp t)) e es)

pub below_sum_all : (t : ℕ) (es : List Entry) → sum_by (λ e. one_if (ltb e.stamp t)) es ≤ length es
below_sum_all t es = omega (arith, below_sum t es, below_all t (stamps es), length-map es (λ (e : Entry). e.stamp))

pub ranked_in_any_order : (es fs : List Entry) (k : ℕ) → IsPermutation es fs → ranked (stamps es) k ≡ ranked (stamps fs) k
ranked_in_any_order es fs k h =
    same_counts (stamps es) (stamps fs)
    (length-map fs (λ e. e.stamp) ∙ length_permutation es fs h ∙ sym (length-map es (λ e. e.stamp)))
    (λ t. below_sum t fs ∙ sum_by-IsPermutation (λ e. one_if (ltb e.stamp t)) es fs h ∙ sym (below_sum t es))
    k

-- what the first stamp that has the rank answers, or that none has it
pub record Answered (es : List Entry) (k : ℕ) (r : Option ℕ) : Type 0 where
  pub value : r ≡ ranked (stamps es) k
  pub rank : MatchOption r (length es ≤ k) (Rank (stamps es) k)

pub answered : (es : List Entry) (k : ℕ) (r : Option ℕ)
    → MatchOption r (AllWithin (λ s. has_rank (stamps es) k s ≡ false) (stamps es) 0 (length (stamps es)))
    (λ s. (has_rank (stamps es) k s ≡ true) × (i : ℕ) × (i < length (stamps es)) × HoldsAt (λ y. y ≡ s) (stamps es) i
    × AllWithin (λ y. has_rank (stamps es) k y ≡ false) (stamps es) 0 i)
    → Answered es k r
answered es k None none =
    let xs : List ℕ = stamps es in
    let each : (i : ℕ) → i < length xs → has_rank xs k (get_or xs i 0) ≡ false = λ i h. none i 0 (omega arith) h in
    let short = too_few xs k (All-from_get_or (λ s. has_rank xs k s ≡ false) xs 0 each) in
    record { value = sym (ranked_none xs k short); rank = omega (arith, short, length-map es (λ (e : Entry). e.stamp)) }
answered es k (Some s) w =
    let p = has_between (stamps es) k s w.0 in
    record {
      value = sym (between_ranked (stamps es) k s p);
      rank = record { member = (w.1, w.2, w.3); smaller = p.smaller; no_larger = p.no_larger };
    }
