-- Tables and watermarks by their members. Assumes nothing.
use Rattle.std.proofs.Common.{◌≡◌, ℕ, zero, suc, ◌+◌, ◌<◌, ◌≤◌, min, Bool, true, false, cond, eqb, ◌⊎◌, List, [], ◌∷◌, length, get_or, set, replicate, Some, None, sym, refl, ap, ◌∙◌, subst, inl, inr, arith, get_or-set_other, get_or-set_same}
use Rattle.std.specs.List.{slice_get}
use Rattle.std.proofs.lemmas.Option.{none-some, same_Some}
use Rattle.std.proofs.lemmas.Bool.{both_ways, eq-eqb, ne_eqb, cases_eq, cases_lt, cond-true, cond-false}
use Rattle.std.proofs.lemmas.Bool.Decides.{nat_tests}
use Rattle.tables.specs.Tables.{empty_table, held_from, free_from, actives}
use Rattle.tables.specs.declared.place.Active.{Active}
use Rattle.tables.specs.declared.place.Held.{Held}
use Rattle.tables.specs.declared.place.Place.{Place}
use Rattle.tables.specs.declared.place.Place.TheVariants.{Free, Open}
use Rattle.tables.specs.declared.table.Table.{Table}
pub use Rattle.rules.specs.Characterised.{IsLeast}
use Rattle.rules.specs.Characterised.{IsEarliest}
use Rattle.rules.specs.Members.{In}
use Rattle.rules.specs.Watermarks.{collected, least, stands_before, better, earliest}
use Rattle.rules.proofs.Inside.{in_left, in_right, in_either, nth_of_in, in_nth, nth_set_same, nth_set_other}

not_free : (n t : ℕ) → Free ≡ Open n t → ⊥
not_free n t e = cc

open_number : (k n s t : ℕ) → Open k s ≡ Open n t → k ≡ n
open_number k n s t e = cc

open_stamp : (k n s t : ℕ) → Open k s ≡ Open n t → s ≡ t
open_stamp k n s t e = cc

-- the place from a on that holds n
held_found : (n a : ℕ) (ps : List Place) (h : Held) → held_from n a ps ≡ Some h
    → (j : ℕ) × (h.place ≡ a + j) × (slice_get ps j ≡ Some (Open n h.stamp))
held_found n a [] h e = absurd (none-some h e)
held_found n a (Free ∷ ps) h e = let f = held_found n (a + 1) ps h e in (suc f.0, omega (arith, f.1), f.2)
held_found n a (Open k t ∷ ps) h e =
    let here : Held = record { place = a; stamp = t } in
    elim (cases_eq k n) [
      | inl q ↦
          let r : here ≡ h = same_Some here h (sym (cond-true (eqb k n) (Some here) (held_from n (a + 1) ps) (eq-eqb k n q)) ∙ e) in
          let place : a ≡ h.place = ap (λ (x : Held). x.place) r in
          let stamp : t ≡ h.stamp = ap (λ (x : Held). x.stamp) r in
          (0, omega arith, ap Some (cc))
      | inr q ↦
          let f = held_found n (a + 1) ps h (sym (cond-false (eqb k n) (Some here) (held_from n (a + 1) ps) (ne_eqb k n q)) ∙ e) in
          (suc f.0, omega (arith, f.1), f.2)
    ]

free_found : (a : ℕ) (ps : List Place) (i : ℕ) → free_from a ps ≡ Some i → (j : ℕ) × (i ≡ a + j) × (slice_get ps j ≡ Some Free)
free_found a [] i e = absurd (none-some i e)
free_found a (Free ∷ ps) i e = let q : a ≡ i = same_Some a i e in (0, omega arith, refl)
free_found a (Open k t ∷ ps) i e = let f = free_found (a + 1) ps i e in (suc f.0, omega (arith, f.1), f.2)

pub held_some : (n : ℕ) (ps : List Place) (h : Held) → held_from n 0 ps ≡ Some h → slice_get ps h.place ≡ Some (Open n h.stamp)
held_some n ps h e =
    let f = held_found n 0 ps h e in
    let q : h.place ≡ f.0 = omega (arith, f.1) in
    rw q f.2

pub free_some : (ps : List Place) (i : ℕ) → free_from 0 ps ≡ Some i → slice_get ps i ≡ Some Free
free_some ps i e =
    let f = free_found 0 ps i e in
    let q : i ≡ f.0 = omega (arith, f.1) in
    rw q f.2

-- no two places hold the same number
abbrev pub Distinct : List Place → Type 0
Distinct ps = (i j n s t : ℕ) → slice_get ps i ≡ Some (Open n s) → slice_get ps j ≡ Some (Open n t) → i ≡ j

-- a free place is filled
pub record Fills (ps qs : List Place) (n t : ℕ) : Type 0 where
  pub new : In (Open n t) qs
  pub kept : (k s : ℕ) → In (Open k s) ps → In (Open k s) qs
  pub only : (k s : ℕ) → In (Open k s) qs → ((k ≡ n) × (s ≡ t)) ⊎ In (Open k s) ps
  pub distinct : Distinct qs

pub fills : (ps : List Place) (i n t : ℕ) → Distinct ps → ((s : ℕ) → In (Open n s) ps → ⊥) → slice_get ps i ≡ Some Free
    → Fills ps (set ps i (Open n t)) n t
fills ps i n t d fresh e =
    record {
      new = in_nth qs i (Open n t) here;
      kept = kept;
      only = only;
      distinct = distinct;
    }
  where
    qs : List Place
    qs = set ps i (Open n t)

    here : slice_get qs i ≡ Some (Open n t)
    here = nth_set_same ps i Free (Open n t) e

    there : (j : ℕ) → (j ≡ i → ⊥) → slice_get qs j ≡ slice_get ps j
    there j h = nth_set_other ps i j (Open n t) h

    filled_at : (j k s : ℕ) → j ≡ i → slice_get qs j ≡ Some (Open k s) → Open n t ≡ Open k s
    filled_at j k s h q = same_Some (Open n t) (Open k s) (sym here ∙ ap (slice_get qs) (sym h) ∙ q)

    was_open : (j k s : ℕ) → slice_get ps j ≡ Some (Open k s) → j ≡ i → ⊥
    was_open j k s q h = not_free k s (same_Some Free (Open k s) (sym e ∙ ap (slice_get ps) (sym h) ∙ q))

    kept : (k s : ℕ) → In (Open k s) ps → In (Open k s) qs
    kept k s m =
        let f = nth_of_in (Open k s) ps m in
        in_nth qs f.0 (Open k s) (there f.0 (was_open f.0 k s f.1) ∙ f.1)

    only : (k s : ℕ) → In (Open k s) qs → ((k ≡ n) × (s ≡ t)) ⊎ In (Open k s) ps
    only k s m =
        let f = nth_of_in (Open k s) qs m in
        elim (cases_eq f.0 i) [
          | inl h ↦ let q = sym (filled_at f.0 k s h f.1) in inl (open_number k n s t q, open_stamp k n s t q)
          | inr h ↦ inr (in_nth ps f.0 (Open k s) (sym (there f.0 h) ∙ f.1))
        ]

    -- only the filled place holds n
    alone : (j k s r : ℕ) → (j ≡ i → ⊥) → slice_get qs j ≡ Some (Open k s) → Open n t ≡ Open k r → ⊥
    alone j k s r h q m =
        let same : n ≡ k = open_number n k t r m in
        fresh s (rw same (in_nth ps j (Open k s) (sym (there j h) ∙ q)))

    distinct : Distinct qs
    distinct a b k s r p q =
        elim (cases_eq a i) [
          | inl x ↦ elim (cases_eq b i) [
            | inl y ↦ omega arith
            | inr y ↦ absurd (alone b k r s y q (filled_at a k s x p))
          ]
          | inr x ↦ elim (cases_eq b i) [
            | inl y ↦ absurd (alone a k s r x p (filled_at b k r y q))
            | inr y ↦ d a b k s r (sym (there a x) ∙ p) (sym (there b y) ∙ q)
          ]
        ]

-- the place of transaction n is freed
pub record Frees (ps qs : List Place) (n : ℕ) : Type 0 where
  pub gone : (s : ℕ) → In (Open n s) qs → ⊥
  pub kept : (k s : ℕ) → (k ≡ n → ⊥) → In (Open k s) ps → In (Open k s) qs
  pub only : (k s : ℕ) → In (Open k s) qs → In (Open k s) ps
  pub distinct : Distinct qs

pub frees : (ps : List Place) (i n t : ℕ) → Distinct ps → slice_get ps i ≡ Some (Open n t) → Frees ps (set ps i Free) n
frees ps i n t d e = record { gone = gone; kept = kept; only = only; distinct = distinct }
  where
    qs : List Place
    qs = set ps i Free

    here : slice_get qs i ≡ Some Free
    here = nth_set_same ps i (Open n t) Free e

    there : (j : ℕ) → (j ≡ i → ⊥) → slice_get qs j ≡ slice_get ps j
    there j h = nth_set_other ps i j Free h

    still_open : (j k s : ℕ) → slice_get qs j ≡ Some (Open k s) → j ≡ i → ⊥
    still_open j k s q h = not_free k s (same_Some Free (Open k s) (sym here ∙ ap (slice_get qs) (sym h) ∙ q))

    was : (j k s : ℕ) → slice_get qs j ≡ Some (Open k s) → slice_get ps j ≡ Some (Open k s)
    was j k s q = sym (there j (still_open j k s q)) ∙ q

    gone : (s : ℕ) → In (Open n s) qs → ⊥
    gone s m =
        let f = nth_of_in (Open n s) qs m in
        still_open f.0 n s f.1 (d f.0 i n s t (was f.0 n s f.1) e)

    kept : (k s : ℕ) → (k ≡ n → ⊥) → In (Open k s) ps → In (Open k s) qs
    kept k s h m =
        let f = nth_of_in (Open k s) ps m in
        let other : f.0 ≡ i → ⊥ = λ x. h (open_number k n s t (same_Some (Open k s) (Open n t) (sym f.1 ∙ ap (slice_get ps) x ∙ e))) in
        in_nth qs f.0 (Open k s) (there f.0 other ∙ f.1)

    only : (k s : ℕ) → In (Open k s) qs → In (Open k s) ps
    only k s m = let f = nth_of_in (Open k s) qs m in in_nth ps f.0 (Open k s) (was f.0 k s f.1)

    distinct : Distinct qs
    distinct a b k s r p q = d a b k s r (was a k s p) (was b k r q)

-- what holds of the table that is set, and of all others, holds of each table
pub by_level : (ts : List Table) (l : ℕ) (t : Table) → l < length ts → (Q : ℕ → Table → Type 0) → Q l t
    → ((a : ℕ) → (a ≡ l → ⊥) → Q a (get_or ts a empty_table)) → (a : ℕ) → Q a (get_or (set ts l t) a empty_table)
by_level ts l t lt Q q r a =
    elim (cases_eq a l) [
      | inl e ↦ subst (λ b. Q b (get_or (set ts l t) b empty_table)) (sym e) (subst (Q l) (sym (get_or-set_same ts l t empty_table lt)) q)
      | inr ne ↦ subst (Q a) (sym (get_or-set_other ts l a t empty_table ne)) (r a ne)
    ]

-- the active transactions of one table
actives_in : (l n t : ℕ) (ps : List Place) → In (Open n t) ps → In (record { level = l; number = n; stamp = t }) (actives l ps)
actives_in l n t [] i = i
actives_in l n t (Free ∷ ps) (inl e) = absurd (not_free n t e)
actives_in l n t (Free ∷ ps) (inr i) = actives_in l n t ps i
actives_in l n t (Open k s ∷ ps) (inl e) =
    let number : k ≡ n = open_number k n s t e in
    let stamp : s ≡ t = open_stamp k n s t e in
    inl (λ j. record { level = l; number = number j; stamp = stamp j })
actives_in l n t (Open k s ∷ ps) (inr i) = inr (actives_in l n t ps i)

actives_from : (l : ℕ) (ps : List Place) (x : Active) → In x (actives l ps) → (x.level ≡ l) × In (Open x.number x.stamp) ps
actives_from l [] x i = absurd i
actives_from l (Free ∷ ps) x i = let f = actives_from l ps x i in (f.0, inr f.1)
actives_from l (Open k s ∷ ps) x (inl e) =
    (ap (λ (y : Active). y.level) (sym e), inl (λ j. Open (e j).number (e j).stamp))
actives_from l (Open k s ∷ ps) x (inr i) = let f = actives_from l ps x i in (f.0, inr f.1)

pub never_open : (m n t : ℕ) → In (Open n t) (replicate m Free) → ⊥
never_open zero n t i = i
never_open (suc m) n t (inl e) = not_free n t e
never_open (suc m) n t (inr i) = never_open m n t i

collected_at : (p : ℕ → Bool) (a : ℕ) (ts : List Table) (l j n t : ℕ) → l ≡ a + j → p l ≡ true → In (Open n t) (get_or ts j empty_table).places
    → In (record { level = l; number = n; stamp = t }) (collected p a ts)
collected_at p a [] l j n t h q i = never_open 8 n t i
collected_at p a (x ∷ xs) l zero n t h q i =
    let same : a ≡ l = omega arith in
    let mine : cond (p a) (actives a x.places) [] ≡ actives l x.places =
    cond-true (p a) (actives a x.places) [] (ap p same ∙ q) ∙ ap (λ b. actives b x.places) same in
    in_left (record { level = l; number = n; stamp = t }) (cond (p a) (actives a x.places) []) (collected p (a + 1) xs)
    (rw mine (actives_in l n t x.places i))
collected_at p a (x ∷ xs) l (suc j) n t h q i =
    in_right (record { level = l; number = n; stamp = t }) (cond (p a) (actives a x.places) []) (collected p (a + 1) xs)
    (collected_at p (a + 1) xs l j n t (omega arith) q i)

actives_passed : (b : Bool) (l : ℕ) (ps : List Place) (x : Active) → In x (cond b (actives l ps) [])
    → (b ≡ true) × (x.level ≡ l) × In (Open x.number x.stamp) ps
actives_passed true l ps x i = let f = actives_from l ps x i in (refl, f.0, f.1)
actives_passed false l ps x i = absurd i

collected_place : (p : ℕ → Bool) (a : ℕ) (ts : List Table) (x : Active) → In x (collected p a ts)
    → (j : ℕ) × (x.level ≡ a + j) × (p x.level ≡ true) × In (Open x.number x.stamp) (get_or ts j empty_table).places
collected_place p a [] x i = absurd i
collected_place p a (t ∷ ts) x i =
    elim (in_either x (cond (p a) (actives a t.places) []) (collected p (a + 1) ts) i) [
      | inl m ↦
          let f = actives_passed (p a) a t.places x m in
          (0, omega (arith, f.1), ap p f.1 ∙ f.0, f.2)
      | inr m ↦
          let f = collected_place p (a + 1) ts x m in
          (suc f.0, omega (arith, f.1), f.2, f.3)
    ]

-- the collected transactions are those of the tables whose levels pass
pub collected_in : (p : ℕ → Bool) (ts : List Table) (l n t : ℕ) → p l ≡ true → In (Open n t) (get_or ts l empty_table).places
    → In (record { level = l; number = n; stamp = t }) (collected p 0 ts)
collected_in p ts l n t q i = collected_at p 0 ts l l n t (omega arith) q i

pub collected_from : (p : ℕ → Bool) (ts : List Table) (x : Active) → In x (collected p 0 ts)
    → (p x.level ≡ true) × In (Open x.number x.stamp) (get_or ts x.level empty_table).places
collected_from p ts x i =
    let f = collected_place p 0 ts x i in
    let same : x.level ≡ f.0 = omega (arith, f.1) in
    (f.2, rw same f.3)

pub least_is : (c : ℕ) (xs : List Active) → IsLeast c xs (least c xs)
least_is c [] = record { clock = omega arith; below = λ x i. absurd i; one = inl refl }
least_is c (x ∷ xs) =
    let f = least_is (min c x.stamp) xs in
    let low = f.clock in
    record { clock = omega arith; below = below low f.below; one = one f.one }
  where
    r : ℕ
    r = least (min c x.stamp) xs

    below : r ≤ min c x.stamp → ((z : Active) → In z xs → r ≤ z.stamp) → (z : Active) → In z (x ∷ xs) → r ≤ z.stamp
    below low rest z (inl e) = let s : x.stamp ≡ z.stamp = ap (λ (y : Active). y.stamp) e in omega arith
    below low rest z (inr i) = rest z i

    one : ((r ≡ min c x.stamp) ⊎ ((z : Active) × In z xs × (z.stamp ≡ r))) → (r ≡ c) ⊎ ((z : Active) × In z (x ∷ xs) × (z.stamp ≡ r))
    one (inl e) =
        elim (cases_lt x.stamp c) [
          | inl l ↦ inr (x, inl refl, omega arith)
          | inr l ↦ inl (omega arith)
        ]
    one (inr f) = inr (f.0, inr f.1, f.2)

-- not to stand before is an order
behind_through : (x y z : Active) → stands_before x y ≡ false → stands_before y z ≡ false → stands_before x z ≡ false
behind_through x y z p q = grind (arith, nat_tests)

behind_back : (x y : Active) → stands_before x y ≡ true → stands_before y x ≡ false
behind_back x y p = grind (arith, nat_tests)

behind_itself : (x : Active) → stands_before x x ≡ false
behind_itself x = grind (arith, nat_tests)

-- from the best so far on: what is found is that or a member, and it stands behind none
record Found (b : Active) (xs : List Active) (y : Active) : Type 0 where
  member : (b ≡ y) ⊎ In y xs
  best : stands_before b y ≡ false
  others : (z : Active) → In z xs → stands_before z y ≡ false

earliest_found : (b : Active) (xs : List Active) (y : Active) → earliest (Some b) xs ≡ Some y → Found b xs y
earliest_found b [] y e =
    let same : b ≡ y = same_Some b y e in
    record { member = inl same; best = rw same (behind_itself y); others = λ z i. absurd i }
earliest_found b (x ∷ xs) y e = step (stands_before x b) refl (earliest_found (better (Some b) x) xs y e)
  where
    others : stands_before x y ≡ false → ((z : Active) → In z xs → stands_before z y ≡ false) → (z : Active) → In z (x ∷ xs) → stands_before z y ≡ false
    others first rest z (inl q) = rw (← q) first
    others first rest z (inr i) = rest z i

    step : (t : Bool) → stands_before x b ≡ t → Found (cond t x b) xs y → Found b (x ∷ xs) y
    step true q f =
        record {
          member = inr f.member;
          best = behind_through b x y (behind_back x b q) f.best;
          others = others f.best f.others;
        }
    step false q f =
        record {
          member = later f.member;
          best = f.best;
          others = others (behind_through x b y q f.best) f.others;
        }
      where
        later : ((b ≡ y) ⊎ In y xs) → (b ≡ y) ⊎ In y (x ∷ xs)
        later (inl m) = inl m
        later (inr m) = inr (inr m)

earliest_finds : (b : Active) (xs : List Active) → earliest (Some b) xs ≡ None → ⊥
earliest_finds b [] e = none-some b (sym e)
earliest_finds b (x ∷ xs) e = earliest_finds (better (Some b) x) xs e

-- the earliest of a list: one of them, before which none stands; none only of an empty list
pub earliest_some : (xs : List Active) (y : Active) → earliest None xs ≡ Some y → In y xs × ((z : Active) → In z xs → stands_before z y ≡ true → ⊥)
earliest_some [] y e = absurd (none-some y e)
earliest_some (x ∷ xs) y e = (f.member, none_before)
  where
    f : Found x xs y
    f = earliest_found x xs y e

    none_before : (z : Active) → In z (x ∷ xs) → stands_before z y ≡ true → ⊥
    none_before z (inl q) t = both_ways (stands_before z y) (rw (← q) f.best) t
    none_before z (inr i) t = both_ways (stands_before z y) (f.others z i) t

pub earliest_is : (xs : List Active) (y : Active) → earliest None xs ≡ Some y → IsEarliest xs y
earliest_is xs y e = let f = earliest_some xs y e in record { member = f.0; none_before = f.1 }

pub earliest_none : (xs : List Active) → earliest None xs ≡ None → (z : Active) → In z xs → ⊥
earliest_none [] e z i = i
earliest_none (x ∷ xs) e z i = earliest_finds x xs e
