-- There is no fault exactly where the bytes are an image. Assumes nothing.
use Rattle.std.specs.Prelude.{◌≡◌, ℕ, zero, suc, ◌+◌, ◌-◌, ◌*◌, ◌<◌, ◌≤◌, Bool, true, false, not, ◌&&◌, ltb, leb, List, map, length, Some, None, Option, ◌==◌, nat_le, nat_lt, refl}
use Rattle.std.proofs.Common.{inl, inr, sym, ap, ◌∙◌, add-zero, arith}
use Rattle.std.specs.List.{range_with_len, slice_get}
use Rattle.std.proofs.lemmas.Option.{none-some}
use Rattle.std.proofs.lemmas.List.FromFn.{length-map-range_with_len}
use Rattle.std.proofs.lemmas.Bool.{and_parts, and_from, and_left, and_right, not-false, not_from_true, leb-true, leb-false, ltb-false, eqb-true, le-leb, lt-leb, lt-ltb, le-ltb, eq-eqb, cases_lt}
use Rattle.shelves.specs.Rows.{goes_before, in_order, any_committed}
use Rattle.shelves.specs.declared.version.Version.{Version}
use Rattle.shelves.proofs.Ruled.{rule_decides}
use Rattle.image.specs.Counted.{nth_counted}
use Rattle.image.specs.Faults.{either, fault_if, first, version_fault, used_fits, item_fault, count_fits, length_fits, fault}
use Rattle.fields.specs.Fields.{field32, version_at}
use Rattle.image.specs.Layout.{item_count, whole, level_at, used_at, row_start, row_at, ItemFits, IsImage}

-- no fault in a chain of tests
pub either_parts : (x y : Option ℕ) → either x y ≡ None → (x ≡ None) × (y ≡ None)
either_parts None y h = (refl, h)
either_parts (Some a) y h = absurd (none-some a (sym h))

pub either_none : (x y : Option ℕ) → x ≡ None → y ≡ None → either x y ≡ None
either_none None y p q = q
either_none (Some a) y p q = p

pub passed : (b : Bool) (at : ℕ) → fault_if b at ≡ None → b ≡ false
passed true at h = absurd (none-some at (sym h))
passed false at h = refl

pub passes : (b : Bool) (at : ℕ) → b ≡ false → fault_if b at ≡ None
passes b at h = ap (λ t. fault_if t at) h

first_parts : (f : ℕ → Option ℕ) (a n : ℕ) → first f a n ≡ None → (k : ℕ) → k < n → f (a + k) ≡ None
first_parts f a zero h k l = absurd (omega arith)
first_parts f a (suc n) h zero l = ap f (add-zero a) ∙ (either_parts (f a) (first f (a + 1) n) h).0
first_parts f a (suc n) h (suc k) l =
    let e : a + suc k ≡ a + 1 + k = omega arith in
    ap f e ∙ first_parts f (a + 1) n (either_parts (f a) (first f (a + 1) n) h).1 k (omega arith)

first_none : (f : ℕ → Option ℕ) (a n : ℕ) → ((k : ℕ) → k < n → f (a + k) ≡ None) → first f a n ≡ None
first_none f a zero h = refl
first_none f a (suc n) h =
    either_none (f a) (first f (a + 1) n) (ap f (sym (add-zero a)) ∙ h 0 (omega arith))
    (first_none f (a + 1) n (λ k l. let e : a + 1 + k ≡ a + suc k = omega arith in ap f e ∙ h (suc k) (omega arith)))

-- rows that are made by number
order_counted : (g : ℕ → Version) (a n : ℕ) → ((j : ℕ) → a ≤ j → j + 1 < a + n → goes_before (g j) (g (j + 1)) ≡ true)
    → in_order (map g (range_with_len a n)) ≡ true
order_counted g a zero h = refl
order_counted g a (suc zero) h = refl
order_counted g a (suc (suc n)) h =
    and_from (goes_before (g a) (g (a + 1))) (in_order (map g (range_with_len (a + 1) (suc n)))) (h a (omega arith) (omega arith))
    (order_counted g (a + 1) (suc n) (λ j l m. h j (omega arith) (omega arith)))

and_rest : (x y : Bool) → (x && y) ≡ false → x ≡ true → y ≡ false
and_rest x y h e = rw e at h

zero_plus : (j : ℕ) → j ≡ 0 + j
zero_plus j = omega arith

-- a version that has no fault
record VersionFits (bs : List ℕ) (start j : ℕ) : Type 0 where
  state : field32 bs (start + 24 * j + 12) ≤ 1
  number : 0 < j → field32 bs (start + 24 * (j - 1)) < field32 bs (start + 24 * j)
  stamp : 0 < j → field32 bs (start + 24 * (j - 1) + 4) ≤ field32 bs (start + 24 * j + 4)

module _ (bs : List ℕ) (start j : ℕ) where
  version_parts : version_fault bs start j ≡ None → VersionFits bs start j
  version_parts h =
      let here : ℕ = start + 24 * j in
      let before : ℕ = start + 24 * (j - 1) in
      let falls : Bool = nat_lt 0 j && leb (field32 bs here) (field32 bs before) in
      let sinks : Bool = nat_lt 0 j && ltb (field32 bs (here + 4)) (field32 bs (before + 4)) in
      let a = either_parts (fault_if (nat_lt 1 (field32 bs (here + 12))) (here + 12)) (either (fault_if falls here) (fault_if sinks (here + 4))) h in
      let b = either_parts (fault_if falls here) (fault_if sinks (here + 4)) a.1 in
      record {
        state = ltb-false 1 (field32 bs (here + 12)) (passed (nat_lt 1 (field32 bs (here + 12))) (here + 12) a.0);
        number = λ l. leb-false (field32 bs here) (field32 bs before)
            (and_rest (nat_lt 0 j) (nat_le (field32 bs here) (field32 bs before)) (passed falls here b.0) (lt-ltb 0 j l));
        stamp = λ l. ltb-false (field32 bs (here + 4)) (field32 bs (before + 4))
            (and_rest (nat_lt 0 j) (nat_lt (field32 bs (here + 4)) (field32 bs (before + 4))) (passed sinks (here + 4) b.1) (lt-ltb 0 j l));
      }

  version_none : VersionFits bs start j → version_fault bs start j ≡ None
  version_none v =
      let here : ℕ = start + 24 * j in
      let before : ℕ = start + 24 * (j - 1) in
      let falls : Bool = leb (field32 bs here) (field32 bs before) in
      let sinks : Bool = ltb (field32 bs (here + 4)) (field32 bs (before + 4)) in
      let no_fall : (nat_lt 0 j && falls) ≡ false =
      elim (cases_lt 0 j) [
        | inl l ↦ and_right (nat_lt 0 j) (nat_le (field32 bs (start + 24 * j)) (field32 bs (start + 24 * (j - 1)))) (lt-leb (field32 bs (start + 24 * j)) (field32 bs (start + 24 * (j - 1))) (v.number l))
        | inr l ↦ and_left (nat_lt 0 j) (nat_le (field32 bs (start + 24 * j)) (field32 bs (start + 24 * (j - 1)))) (le-ltb 0 j l)
      ] in
      let no_sink : (nat_lt 0 j && sinks) ≡ false =
      elim (cases_lt 0 j) [
        | inl l ↦ and_right (nat_lt 0 j) (nat_lt (field32 bs (start + 24 * j + 4)) (field32 bs (start + 24 * (j - 1) + 4))) (le-ltb (field32 bs (start + 24 * j + 4)) (field32 bs (start + 24 * (j - 1) + 4)) (v.stamp l))
        | inr l ↦ and_left (nat_lt 0 j) (nat_lt (field32 bs (start + 24 * j + 4)) (field32 bs (start + 24 * (j - 1) + 4))) (le-ltb 0 j l)
      ] in
      either_none (fault_if (nat_lt 1 (field32 bs (here + 12))) (here + 12)) (either (fault_if (nat_lt 0 j && falls) here) (fault_if (nat_lt 0 j && sinks) (here + 4)))
      (passes (nat_lt 1 (field32 bs (here + 12))) (here + 12) (le-ltb 1 (field32 bs (here + 12)) v.state))
      (either_none (fault_if (nat_lt 0 j && falls) here) (fault_if (nat_lt 0 j && sinks) (here + 4))
      (passes (nat_lt 0 j && falls) here no_fall) (passes (nat_lt 0 j && sinks) (here + 4) no_sink))

-- then it goes after the one before it
next_in_order : (bs : List ℕ) (start j : ℕ) → VersionFits bs start (j + 1)
    → goes_before (version_at bs (start + 24 * j)) (version_at bs (start + 24 * (j + 1))) ≡ true
next_in_order bs start j v =
    let back : j + 1 - 1 ≡ j = omega arith in
    and_from (nat_lt (field32 bs (start + 24 * j)) (field32 bs (start + 24 * (j + 1)))) (nat_le (field32 bs (start + 24 * j + 4)) (field32 bs (start + 24 * (j + 1) + 4)))
    (lt-ltb (field32 bs (start + 24 * j)) (field32 bs (start + 24 * (j + 1))) (rw back at (v.number (omega arith))))
    (le-leb (field32 bs (start + 24 * j + 4)) (field32 bs (start + 24 * (j + 1) + 4)) (rw back at (v.stamp (omega arith))))

-- an item without a fault is an item of an image
module _ (bs : List ℕ) (i : ℕ) where
  item_parts : item_fault bs i ≡ None → ItemFits bs i
  item_parts h =
      let versions : Option ℕ = first (version_fault bs (row_start bs i)) 0 (used_at bs i) in
      let a = either_parts (fault_if (nat_lt 15 (level_at bs i)) (8 + 2 * i)) (either (fault_if (not (used_fits bs i)) (9 + 2 * i)) versions) h in
      let b = either_parts (fault_if (not (used_fits bs i)) (9 + 2 * i)) versions a.1 in
      let used = not-false (used_fits bs i) (passed (not (used_fits bs i)) (9 + 2 * i) b.0) in
      let u = and_parts (nat_le 1 (used_at bs i) && nat_le (used_at bs i) 8) (any_committed (row_at bs (row_start bs i) (used_at bs i))) used in
      let len : length (row_at bs (row_start bs i) (used_at bs i)) ≡ used_at bs i = length-map-range_with_len (λ j. version_at bs (row_start bs i + 24 * j)) 0 (used_at bs i) in
      let each : (j : ℕ) → j < used_at bs i → VersionFits bs (row_start bs i) j =
      λ j l. version_parts bs (row_start bs i) j
      (ap (version_fault bs (row_start bs i)) (zero_plus j) ∙ first_parts (version_fault bs (row_start bs i)) 0 (used_at bs i) b.1 j l) in
      let ordered = order_counted (λ j. version_at bs (row_start bs i + 24 * j)) 0 (used_at bs i) (λ j _ l. next_in_order bs (row_start bs i) j (each (j + 1) (omega arith))) in
      record {
        level = ltb-false 15 (level_at bs i) (passed (nat_lt 15 (level_at bs i)) (8 + 2 * i) a.0);
        states = λ j l. (each j l).state;
        rule = (rule_decides (row_at bs (row_start bs i) (used_at bs i))).0
            (and_from (nat_le 1 (length (row_at bs (row_start bs i) (used_at bs i))) && nat_le (length (row_at bs (row_start bs i) (used_at bs i))) 8)
            (in_order (row_at bs (row_start bs i) (used_at bs i)) && any_committed (row_at bs (row_start bs i) (used_at bs i)))
            (rw len u.0)
            (and_from (in_order (row_at bs (row_start bs i) (used_at bs i))) (any_committed (row_at bs (row_start bs i) (used_at bs i))) ordered u.1));
      }

  item_none : ItemFits bs i → item_fault bs i ≡ None
  item_none f =
      let len : length (row_at bs (row_start bs i) (used_at bs i)) ≡ used_at bs i = length-map-range_with_len (λ j. version_at bs (row_start bs i + 24 * j)) 0 (used_at bs i) in
      let kept = (rule_decides (row_at bs (row_start bs i) (used_at bs i))).1 f.rule in
      let k = and_parts (nat_le 1 (length (row_at bs (row_start bs i) (used_at bs i))) && nat_le (length (row_at bs (row_start bs i) (used_at bs i))) 8)
      (in_order (row_at bs (row_start bs i) (used_at bs i)) && any_committed (row_at bs (row_start bs i) (used_at bs i))) kept in
      let o = and_parts (in_order (row_at bs (row_start bs i) (used_at bs i))) (any_committed (row_at bs (row_start bs i) (used_at bs i))) k.1 in
      let used : used_fits bs i ≡ true =
      and_from (nat_le 1 (used_at bs i) && nat_le (used_at bs i) 8) (any_committed (row_at bs (row_start bs i) (used_at bs i))) (rw len at k.0) o.1 in
      let at_place : (j : ℕ) → j < used_at bs i → slice_get (row_at bs (row_start bs i) (used_at bs i)) j ≡ Some (version_at bs (row_start bs i + 24 * j)) =
      λ j l. nth_counted (λ m. version_at bs (row_start bs i + 24 * m)) (used_at bs i) j l in
      let each : (j : ℕ) → j < used_at bs i → VersionFits bs (row_start bs i) j =
      λ j l. record {
        state = f.states j l;
        number = λ m. f.rule.numbers_rise (j - 1) j (version_at bs (row_start bs i + 24 * (j - 1))) (version_at bs (row_start bs i + 24 * j)) (omega arith) (at_place (j - 1) (omega arith)) (at_place j l);
        stamp = λ m. f.rule.stamps_never_fall (j - 1) j (version_at bs (row_start bs i + 24 * (j - 1))) (version_at bs (row_start bs i + 24 * j)) (omega arith) (at_place (j - 1) (omega arith)) (at_place j l);
      } in
      either_none (fault_if (nat_lt 15 (level_at bs i)) (8 + 2 * i)) (either (fault_if (not (used_fits bs i)) (9 + 2 * i)) (first (version_fault bs (row_start bs i)) 0 (used_at bs i)))
      (passes (nat_lt 15 (level_at bs i)) (8 + 2 * i) (le-ltb 15 (level_at bs i) f.level))
      (either_none (fault_if (not (used_fits bs i)) (9 + 2 * i)) (first (version_fault bs (row_start bs i)) 0 (used_at bs i))
      (passes (not (used_fits bs i)) (9 + 2 * i) (not_from_true (used_fits bs i) used))
      (first_none (version_fault bs (row_start bs i)) 0 (used_at bs i)
      (λ j l. ap (version_fault bs (row_start bs i)) (sym (zero_plus j)) ∙ version_none bs (row_start bs i) j (each j l))))

-- bytes without a fault are an image
module _ (bs : List ℕ) where
  pub fault_parts : fault bs ≡ None → IsImage bs
  fault_parts h =
      let items : Option ℕ = first (item_fault bs) 0 (item_count bs) in
      let a = either_parts (fault_if (not (count_fits bs)) 0) (either (fault_if (not (length_fits bs)) 4) items) h in
      let b = either_parts (fault_if (not (length_fits bs)) 4) items a.1 in
      let count = not-false (count_fits bs) (passed (not (count_fits bs)) 0 a.0) in
      let len = not-false (length_fits bs) (passed (not (length_fits bs)) 4 b.0) in
      let c = and_parts (nat_le 8 (length bs)) (nat_le 1 (item_count bs) && nat_le (item_count bs) 4096) count in
      let d = and_parts (nat_le 1 (item_count bs)) (nat_le (item_count bs) 4096) c.1 in
      let l = and_parts (field32 bs 4 == whole (item_count bs)) (length bs == whole (item_count bs)) len in
      record {
        some = leb-true 1 (item_count bs) d.0;
        few = leb-true (item_count bs) 4096 d.1;
        length_field = eqb-true (field32 bs 4) (whole (item_count bs)) l.0;
        length_exact = eqb-true (length bs) (whole (item_count bs)) l.1;
        items = λ i l. item_parts bs i (ap (item_fault bs) (zero_plus i) ∙ first_parts (item_fault bs) 0 (item_count bs) b.1 i l);
      }

  pub fault_none : IsImage bs → fault bs ≡ None
  fault_none m =
      let count : count_fits bs ≡ true =
      and_from (nat_le 8 (length bs)) (nat_le 1 (item_count bs) && nat_le (item_count bs) 4096) (le-leb 8 (length bs) (omega (arith, m.length_exact)))
      (and_from (nat_le 1 (item_count bs)) (nat_le (item_count bs) 4096) (le-leb 1 (item_count bs) m.some) (le-leb (item_count bs) 4096 m.few)) in
      let len : length_fits bs ≡ true =
      and_from (field32 bs 4 == whole (item_count bs)) (length bs == whole (item_count bs))
      (eq-eqb (field32 bs 4) (whole (item_count bs)) m.length_field) (eq-eqb (length bs) (whole (item_count bs)) m.length_exact) in
      either_none (fault_if (not (count_fits bs)) 0) (either (fault_if (not (length_fits bs)) 4) (first (item_fault bs) 0 (item_count bs)))
      (passes (not (count_fits bs)) 0 (not_from_true (count_fits bs) count))
      (either_none (fault_if (not (length_fits bs)) 4) (first (item_fault bs) 0 (item_count bs))
      (passes (not (length_fits bs)) 4 (not_from_true (length_fits bs) len))
      (first_none (item_fault bs) 0 (item_count bs) (λ i l. ap (item_fault bs) (sym (zero_plus i)) ∙ item_none bs i (m.items i l))))
