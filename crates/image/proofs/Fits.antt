-- Rows have no fault exactly where they fit. Assumes nothing.
use Rattle.std.proofs.Common.{◌≡◌, ℕ, ◌+◌, ◌*◌, ◌≤◌, true, not, ◌&&◌, eqb, ltb, leb, List, [], ◌∷◌, length, is_ok, Some, None, Decides, Option, refl, ap, arith}
use Rattle.std.specs.List.{AllByRecursion}
use Rattle.std.proofs.lemmas.Bool.{and_parts, and_from, not-false, not_from_true, leb-true, leb-false, ltb-true, ltb-false, eqb-true, le-leb, lt-leb, lt-ltb, le-ltb, eq-eqb, false≢true}
use Rattle.shelves.specs.Items.{Item}
use Rattle.shelves.specs.Rows.{leads, in_order, any_committed, RowRule}
use Rattle.shelves.specs.declared.version.Version.{Version}
use Rattle.shelves.proofs.Ruled.{rule_decides}
use Rattle.image.specs.Faults.{either, fault_if}
use Rattle.image.specs.Laid.{follows_fault, versions_fault, number_fits, plain_fault, plain_faults, head_fault, rows_fault, Fitting, laid_answer}
use Rattle.image.specs.Layout.{whole}
use Rattle.image.proofs.Laying.{Short}
use Rattle.image.specs.Sound.{either_parts, either_none, passed, passes}

-- a row in order
follows_decides : (v : Version) (vs : List Version) (at : ℕ) → (follows_fault v vs at ≡ None → leads v vs ≡ true) × (leads v vs ≡ true → follows_fault v vs at ≡ None)
follows_decides v [] at = (λ _. refl, λ _. refl)
follows_decides v (w ∷ ws) at = (
  λ h. let a = either_parts (fault_if (leb w.number v.number) at) (fault_if (ltb w.stamp v.stamp) (at + 4)) h in
      and_from (ltb v.number w.number) (leb v.stamp w.stamp)
      (lt-ltb v.number w.number (leb-false w.number v.number (passed (leb w.number v.number) at a.0)))
      (le-leb v.stamp w.stamp (ltb-false w.stamp v.stamp (passed (ltb w.stamp v.stamp) (at + 4) a.1))),
  λ h. let a = and_parts (ltb v.number w.number) (leb v.stamp w.stamp) h in
      either_none (fault_if (leb w.number v.number) at) (fault_if (ltb w.stamp v.stamp) (at + 4))
      (passes (leb w.number v.number) at (lt-leb w.number v.number (ltb-true v.number w.number a.0)))
      (passes (ltb w.stamp v.stamp) (at + 4) (le-ltb w.stamp v.stamp (leb-true v.stamp w.stamp a.1))),
)

order_parts : (vs : List Version) (at : ℕ) → versions_fault vs at ≡ None → in_order vs ≡ true
order_parts [] at h = refl
order_parts (v ∷ vs) at h =
    let a = either_parts (follows_fault v vs (at + 24)) (versions_fault vs (at + 24)) h in
    and_from (leads v vs) (in_order vs) ((follows_decides v vs (at + 24)).0 a.0) (order_parts vs (at + 24) a.1)

order_none : (vs : List Version) (at : ℕ) → in_order vs ≡ true → versions_fault vs at ≡ None
order_none [] at h = refl
order_none (v ∷ vs) at h =
    let a = and_parts (leads v vs) (in_order vs) h in
    either_none (follows_fault v vs (at + 24)) (versions_fault vs (at + 24)) ((follows_decides v vs (at + 24)).1 a.0) (order_none vs (at + 24) a.1)

-- an item
module _ (k i l : ℕ) (vs : List Version) where
  item_parts : plain_fault k i l vs ≡ None → (l ≤ 15) × RowRule vs
  item_parts h =
      let versions : Option ℕ = versions_fault vs (8 + 2 * k + 192 * i) in
      let a = either_parts (fault_if (ltb 15 l) (8 + 2 * i)) (either (fault_if (not (number_fits vs)) (9 + 2 * i)) versions) h in
      let b = either_parts (fault_if (not (number_fits vs)) (9 + 2 * i)) versions a.1 in
      let n = and_parts (leb 1 (length vs) && leb (length vs) 8) (any_committed vs) (not-false (number_fits vs) (passed (not (number_fits vs)) (9 + 2 * i) b.0)) in (
        ltb-false 15 l (passed (ltb 15 l) (8 + 2 * i) a.0),
        (rule_decides vs).0
            (and_from (leb 1 (length vs) && leb (length vs) 8) (in_order vs && any_committed vs) n.0
            (and_from (in_order vs) (any_committed vs) (order_parts vs (8 + 2 * k + 192 * i) b.1) n.1)),
      )

  item_none : l ≤ 15 → RowRule vs → plain_fault k i l vs ≡ None
  item_none level rule =
      let versions : Option ℕ = versions_fault vs (8 + 2 * k + 192 * i) in
      let n = and_parts (leb 1 (length vs) && leb (length vs) 8) (in_order vs && any_committed vs) ((rule_decides vs).1 rule) in
      let o = and_parts (in_order vs) (any_committed vs) n.1 in
      either_none (fault_if (ltb 15 l) (8 + 2 * i)) (either (fault_if (not (number_fits vs)) (9 + 2 * i)) versions)
      (passes (ltb 15 l) (8 + 2 * i) (le-ltb 15 l level))
      (either_none (fault_if (not (number_fits vs)) (9 + 2 * i)) versions
      (passes (not (number_fits vs)) (9 + 2 * i)
      (not_from_true (number_fits vs) (and_from (leb 1 (length vs) && leb (length vs) 8) (any_committed vs) n.0 o.1)))
      (order_none vs (8 + 2 * k + 192 * i) o.0))

items_parts : (k i : ℕ) (items : List Item) → plain_faults k i items ≡ None → AllByRecursion (λ (it : Item). it.level ≤ 15) items × AllByRecursion (λ (it : Item). RowRule it.row) items
items_parts k i [] h = (tt, tt)
items_parts k i (it ∷ its) h =
    let a = either_parts (plain_fault k i it.level it.row) (plain_faults k (i + 1) its) h in
    let here = item_parts k i it.level it.row a.0 in
    let rest = items_parts k (i + 1) its a.1 in
    ((here.0, rest.0), (here.1, rest.1))

items_none : (k i : ℕ) (items : List Item) → AllByRecursion (λ (it : Item). it.level ≤ 15) items → AllByRecursion (λ (it : Item). RowRule it.row) items → plain_faults k i items ≡ None
items_none k i [] levels rows = refl
items_none k i (it ∷ its) levels rows =
    either_none (plain_fault k i it.level it.row) (plain_faults k (i + 1) its)
    (item_none k i it.level it.row levels.0 rows.0) (items_none k (i + 1) its levels.1 rows.1)

-- the number of items and of bytes
head_parts : (k n : ℕ) → head_fault k n ≡ None → (1 ≤ k) × (k ≤ 4096) × (n ≡ whole k)
head_parts k n h =
    let a = either_parts (fault_if (not (leb 8 n && (leb 1 k && leb k 4096))) 0) (fault_if (not (eqb n (whole k))) 4) h in
    let b = and_parts (leb 8 n) (leb 1 k && leb k 4096) (not-false (leb 8 n && (leb 1 k && leb k 4096)) (passed (not (leb 8 n && (leb 1 k && leb k 4096))) 0 a.0)) in
    let c = and_parts (leb 1 k) (leb k 4096) b.1 in
    (leb-true 1 k c.0, leb-true k 4096 c.1, eqb-true n (whole k) (not-false (eqb n (whole k)) (passed (not (eqb n (whole k))) 4 a.1)))

head_none : (k n : ℕ) → 1 ≤ k → k ≤ 4096 → n ≡ whole k → head_fault k n ≡ None
head_none k n some few exact =
    either_none (fault_if (not (leb 8 n && (leb 1 k && leb k 4096))) 0) (fault_if (not (eqb n (whole k))) 4)
    (passes (not (leb 8 n && (leb 1 k && leb k 4096))) 0
    (not_from_true (leb 8 n && (leb 1 k && leb k 4096))
    (and_from (leb 8 n) (leb 1 k && leb k 4096) (le-leb 8 n (omega arith)) (and_from (leb 1 k) (leb k 4096) (le-leb 1 k some) (le-leb k 4096 few)))))
    (passes (not (eqb n (whole k))) 4 (not_from_true (eqb n (whole k)) (eq-eqb n (whole k) exact)))

pub short_rows : (items : List Item) → AllByRecursion (λ (it : Item). RowRule it.row) items → AllByRecursion Short items
short_rows [] rows = tt
short_rows (it ∷ its) rows = (rows.0.few, short_rows its rows.1)

-- all of it
module _ (items : List Item) (n : ℕ) where
  pub rows_parts : rows_fault items n ≡ None → Fitting items n
  rows_parts h =
      let a = either_parts (head_fault (length items) n) (plain_faults (length items) 0 items) h in
      let b = head_parts (length items) n a.0 in
      let c = items_parts (length items) 0 items a.1 in
      record { some = b.0; few = b.1; exact = b.2; levels = c.0; rows = c.1 }

  rows_none : Fitting items n → rows_fault items n ≡ None
  rows_none f =
      either_none (head_fault (length items) n) (plain_faults (length items) 0 items)
      (head_none (length items) n f.some f.few f.exact) (items_none (length items) 0 items f.levels f.rows)

  none_ok : (o : Option ℕ) → is_ok (laid_answer o) ≡ true → o ≡ None
  none_ok None h = refl
  none_ok (Some at) h = absurd (false≢true h)

  pub answer_exact : Decides (is_ok (laid_answer (rows_fault items n))) (Fitting items n)
  answer_exact = (λ h. rows_parts (none_ok (rows_fault items n) h), λ f. ap (λ o. is_ok (laid_answer o)) (rows_none f))
