-- The test of the row rule decides the rule, and what iterators answer of a row is that test. Assumes nothing.
use Rattle.std.proofs.Common.{◌≡◌, ℕ, zero, suc, ◌+◌, ◌<◌, ◌≤◌, Bool, true, false, ◌&&◌, ◌||◌, ltb, leb, List, [], ◌∷◌, length, get_or, Some, Decides, refl, sym, ap, ◌∙◌, subst, arith}
use native.Mathlib.Numerals.{unary_clauses}
use Rattle.std.specs.List.{ContainsAt as Has, AllAdjacentBelow, IsAllAdjacentAnswer, list_any, slice_get}
use Rattle.std.proofs.lemmas.Option.{none-some, same_Some}
use Rattle.std.proofs.ByRecursion.{has_get_or}
use Rattle.std.proofs.lemmas.Bool.{and_parts, and_from, and_left, and_right, leb-true, ltb-true, le-leb, lt-ltb, false≢true}
use Rattle.std.proofs.lemmas.Bool.Decides.{Decides-at, Decides-by_or}
use Rattle.shelves.specs.declared.version.State.{State}
use Rattle.shelves.specs.declared.version.State.TheVariants.{Committed, Pending}
use Rattle.shelves.specs.declared.version.Version.{Version}
use Rattle.shelves.specs.Edits.{blank}
use Rattle.shelves.specs.Rows.{is_committed, goes_before, leads, in_order, any_committed, keeps_rule, RowRule}

-- neighbours in order, as `is_sorted_by` says it
neighbours_order : (vs : List Version) → AllAdjacentBelow (λ v w. true ≡ goes_before v w) vs (length vs) → in_order vs ≡ true
neighbours_order [] h = refl
neighbours_order (x ∷ []) h = refl
neighbours_order (x ∷ y ∷ zs) h =
    and_from (goes_before x y) (in_order (y ∷ zs)) (sym (h 0 x (omega arith))) (neighbours_order (y ∷ zs) (λ k d l. simp unary_clauses (simp unary_clauses at h (suc k) d (omega arith))))

wrong_order : (vs : List Version) (k : ℕ) → k + 1 < length vs → ((d : Version) → false ≡ goes_before (get_or vs k d) (get_or vs (k + 1) d)) → in_order vs ≡ false
wrong_order [] k l f = absurd (omega arith)
wrong_order (x ∷ []) k l f = absurd (omega arith)
wrong_order (x ∷ y ∷ zs) zero l f = and_left (goes_before x y) (in_order (y ∷ zs)) (sym (f x))
wrong_order (x ∷ y ∷ zs) (suc k) l f = and_right (goes_before x y) (in_order (y ∷ zs)) (wrong_order (y ∷ zs) k (omega arith) (λ d. simp unary_clauses (simp unary_clauses at f d)))

pub sorted_in_order : (vs : List Version) (r : Bool) → IsAllAdjacentAnswer (λ v w b. b ≡ goes_before v w) vs r → r ≡ in_order vs
sorted_in_order vs true h = sym (neighbours_order vs h)
sorted_in_order vs false h = sym (wrong_order vs h.0 h.1 h.2)

-- one committed, as `any` says it
pub any_listed : (vs : List Version) → list_any (λ v. is_committed v.state) vs ≡ any_committed vs
any_listed [] = refl
any_listed (v ∷ vs) = ap (λ b. is_committed v.state || b) (any_listed vs)

-- the rule in words
record Before (v w : Version) : Type 0 where
  number : v.number < w.number
  stamp : v.stamp ≤ w.stamp

before_decides : (v w : Version) → Decides (goes_before v w) (Before v w)
before_decides v w = (
  λ h. let p = and_parts (ltb v.number w.number) (leb v.stamp w.stamp) h in
      record { number = ltb-true v.number w.number p.0; stamp = leb-true v.stamp w.stamp p.1 },
  λ b. and_from (ltb v.number w.number) (leb v.stamp w.stamp)
      (lt-ltb v.number w.number b.number) (le-leb v.stamp w.stamp b.stamp),
)

-- the first version goes before all others
before_far : (v : Version) (vs : List Version) → leads v vs ≡ true → in_order vs ≡ true → (j : ℕ) (w : Version) → slice_get vs j ≡ Some w → Before v w
before_far v [] l o j w h = absurd (none-some w h)
before_far v (x ∷ xs) l o zero w h = subst (λ y. Before v y) (same_Some x w h) ((before_decides v x).0 l)
before_far v (x ∷ xs) l o (suc j) w h =
    let p = and_parts (leads x xs) (in_order xs) o in
    let near = (before_decides v x).0 l in
    let far = before_far x xs p.0 p.1 j w h in
    record { number = omega (arith, near.number, far.number); stamp = omega (arith, near.stamp, far.stamp) }

order_pairs : (vs : List Version) → in_order vs ≡ true → (i j : ℕ) (v w : Version) → i < j → slice_get vs i ≡ Some v → slice_get vs j ≡ Some w → Before v w
order_pairs [] o i j v w l p q = absurd (none-some v p)
order_pairs (x ∷ xs) o i zero v w l p q = absurd (omega arith)
order_pairs (x ∷ xs) o zero (suc j) v w l p q =
    let a = and_parts (leads x xs) (in_order xs) o in
    subst (λ y. Before y w) (same_Some x v p) (before_far x xs a.0 a.1 j w q)
order_pairs (x ∷ xs) o (suc i) (suc j) v w l p q =
    let a = and_parts (leads x xs) (in_order xs) o in
    order_pairs xs a.1 i j v w (omega arith) p q

pairs_order : (vs : List Version) → ((i j : ℕ) (v w : Version) → i < j → slice_get vs i ≡ Some v → slice_get vs j ≡ Some w → Before v w) → in_order vs ≡ true
pairs_order [] h = refl
pairs_order (x ∷ []) h = refl
pairs_order (x ∷ y ∷ zs) h =
    and_from (goes_before x y) (in_order (y ∷ zs)) ((before_decides x y).1 (h 0 1 x y (omega arith) refl refl))
    (pairs_order (y ∷ zs) (λ i j v w l p q. h (suc i) (suc j) v w (omega arith) p q))

committed_state : (s : State) → Decides (is_committed s) (s ≡ Committed)
committed_state Committed = (λ _. refl, λ _. refl)
committed_state Pending = (λ h. absurd (false≢true h), λ h. absurd (false≢true (ap is_committed h)))

committed_decides : (vs : List Version) → Decides (any_committed vs) ((v : Version) × Has vs v × (v.state ≡ Committed))
committed_decides vs =
    let d = Decides-by_or (λ v. is_committed v.state) (λ v. v.state ≡ Committed) any_committed (λ v. committed_state v.state) refl (λ _ _. refl) vs in (
      λ h. let f = d.0 h in (get_or vs f.0 blank, has_get_or vs f.0 blank f.1, f.2 blank),
      λ f. d.1 (f.1.0, f.1.1, λ e. ap (λ (y : Version). y.state) (f.1.2 e) ∙ f.2),
    )

pub rule_decides : (vs : List Version) → Decides (keeps_rule vs) (RowRule vs)
rule_decides vs = (forth, back)
  where
    forth : keeps_rule vs ≡ true → RowRule vs
    forth h =
        let p = and_parts (leb 1 (length vs) && leb (length vs) 8) (in_order vs && any_committed vs) h in
        let n = and_parts (leb 1 (length vs)) (leb (length vs) 8) p.0 in
        let o = and_parts (in_order vs) (any_committed vs) p.1 in
        record {
          some = leb-true 1 (length vs) n.0;
          few = leb-true (length vs) 8 n.1;
          numbers_rise = λ i j v w l a b. (order_pairs vs o.0 i j v w l a b).number;
          stamps_never_fall = λ i j v w l a b. (order_pairs vs o.0 i j v w l a b).stamp;
          one_committed = (committed_decides vs).0 o.1;
        }

    back : RowRule vs → keeps_rule vs ≡ true
    back r =
        and_from (leb 1 (length vs) && leb (length vs) 8) (in_order vs && any_committed vs)
        (and_from (leb 1 (length vs)) (leb (length vs) 8) (le-leb 1 (length vs) r.some) (le-leb (length vs) 8 r.few))
        (and_from (in_order vs) (any_committed vs)
        (pairs_order vs (λ i j v w l a b. record { number = r.numbers_rise i j v w l a b; stamp = r.stamps_never_fall i j v w l a b }))
        ((committed_decides vs).1 r.one_committed))

pub rule_by_test : (vs : List Version) (r : Bool) → r ≡ keeps_rule vs → Decides r (RowRule vs)
rule_by_test vs r h = Decides-at r (keeps_rule vs) h (rule_decides vs)
