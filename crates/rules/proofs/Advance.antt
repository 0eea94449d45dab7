-- A call that lets no version in between a read version and its reader keeps what was read. Assumes nothing.
use Rattle.std.proofs.Common.{◌≡◌, ℕ, ◌<◌, ◌≤◌, ◌⊎◌, List, [], ◌∷◌, length, Some, ◌∙◌, inl, inr, arith}
use Rattle.std.proofs.lemmas.Bool.{cases_eq, cases_lt}
use Rattle.orders.specs.Orders.{PartialOrder}
use Rattle.shelves.specs.Items.{level_of, row_of}
use Rattle.shelves.specs.declared.version.Version.{Version}
use Rattle.tables.specs.declared.table.Table.{Table}
use Rattle.rules.specs.Members.{In}
use Rattle.rules.specs.States.{Parts, State}
use Rattle.rules.specs.Watermarks.{floor}
use Rattle.rules.proofs.History.{Event, idle, began, saw, stored, ended, last_stored, Began, Ended, Precedes}
use Rattle.rules.proofs.Invariant.{ActiveIn, Times, RowKept, Rows, Live, OutsideKept, ReadsKept}
use Rattle.rules.proofs.Marks.{floor_below}

-- a new version of number j found its predecessor not read by anybody later
pub record Blocked (row : List Version) (j : ℕ) : Type 0 where
  pub predecessor : Version
  pub stands : In predecessor row
  pub below : predecessor.number < j
  pub unread : predecessor.mark ≤ j
  pub nearest : (w : Version) → In w row → w.number < j → w.number ≤ predecessor.number

-- a writer that has just put its first version into the row
pub record Newcomer (ts : List Table) (a : ℕ) (row : List Version) (j r : ℕ) : Type 0 where
  pub active : ActiveIn ts a j r
  pub blocked : Blocked row j

-- from history h and state s to h' and s', as far as item x of level a is concerned
pub record Advance (P : Parts) (h : List Event) (s : State) (h' : List Event) (s' : State) (a x : ℕ) : Type 0 where
  pub starts : (l n t : ℕ) → Began h l n t → Began h' l n t
  pub ends : (l n : ℕ) → Ended h l n → Ended h' l n
  pub stores : (k b : ℕ) → Ended h a k → last_stored h a k x ≡ Some b → last_stored h' a k x ≡ Some b
  pub writers : (j r c : ℕ) → Live h' s'.tables a x j r c → ((d : ℕ) × Live h s.tables a x j r d) ⊎ Newcomer s.tables a (row_of s.items x) j r
  pub versions : (w : Version) → In w (row_of s'.items x)
      → ((u : Version) × In u (row_of s.items x) × (u.number ≡ w.number) × (u.mark ≤ w.mark)) ⊎ Newcomer s.tables a (row_of s.items x) w.number w.stamp
  pub floors : floor P s a ≤ floor P s' a

module _ (P : Parts) (lawful : PartialOrder P.order) (v : State) (h : List Event) (s : State) (times : Times P h s.tables) where
  -- a newcomer does not come between a reader and the version that it read
  newcomer_outside : (a l n t x b : ℕ) → RowKept v h s.tables a x (row_of s.items x) → (q : OutsideKept P v h s a l n t x b) → (j r : ℕ)
      → Newcomer s.tables a (row_of s.items x) j r → Precedes l n t a j r → j ≤ q.k
  newcomer_outside a l n t x b kept q j r new prec =
      elim (cases_eq a l) [
        | inl e ↦ elim (cases_lt q.k j) [
          | inl lt ↦
              let n_above : j < n = prec.own e in
              let p : Version = new.blocked.predecessor in
              let low : p.number ≤ q.k = (q.guard e).between p new.blocked.stands (omega (arith, new.blocked.below, n_above)) in
              let clash : p.number ≡ q.k → ⊥ = λ same. omega (arith, (q.guard e).mark p new.blocked.stands same, new.blocked.unread, n_above) in
              absurd (elim q.source [
                | inl z ↦ clash (omega (arith, low, z.0))
                | inr w ↦ elim (kept.ended_writer q.k b w.1.stores w.1.finish) [
                  | inl f ↦ clash (omega (arith, low, f.2, new.blocked.nearest f.0 f.1 (omega (arith, f.2))))
                  | inr f ↦ let far = f p new.blocked.stands in omega (arith, far, low)
                ]
              ])
          | inr le ↦ le
        ]
        | inr e ↦
            let given = times.given a j r (times.active a j r new.active) in
            let low = floor_below P s a a j r (lawful.reflexive a given.level) new.active in
            absurd (omega (arith, prec.lower e, low, q.wall e))
      ]

  module _ (h' : List Event) (s' : State) where
    outside_kept : (a l n t x b : ℕ) → RowKept v h s.tables a x (row_of s.items x) → Advance P h s h' s' a x → OutsideKept P v h s a l n t x b
        → OutsideKept P v h' s' a l n t x b
    outside_kept a l n t x b kept adv q =
        let below_k : (j r : ℕ) → Newcomer s.tables a (row_of s.items x) j r → Precedes l n t a j r → j ≤ q.k =
        newcomer_outside a l n t x b kept q in
        record {
          k = q.k;
          source = elim q.source [
            | inl z ↦ inl z
            | inr w ↦ inr (
              w.0,
              record { start = adv.starts a q.k w.0 w.1.start; finish = adv.ends a q.k w.1.finish; stores = adv.stores q.k b w.1.finish w.1.stores },
              w.2,
            )
          ];
          quiet = λ j r c live prec. elim (adv.writers j r c live) [ inl old ↦ q.quiet j r old.0 old.1 prec | inr new ↦ below_k j r new prec ];
          guard = λ e. record {
            between = λ w i lt. elim (adv.versions w i) [
              | inl old ↦ let g = (q.guard e).between old.0 old.1 (omega (arith, old.2, lt)) in omega (arith, g, old.2)
              | inr new ↦ below_k w.number w.stamp new (record { own = λ _. lt; lower = λ ne. absurd (ne e) })
            ];
            mark = λ w i same. elim (adv.versions w i) [
              | inl old ↦ let g = (q.guard e).mark old.0 old.1 (old.2 ∙ same) in omega (arith, g, old.3)
              | inr new ↦ absurd (elim q.source [
                | inl z ↦ let g = times.given a w.number w.stamp (times.active a w.number w.stamp new.active) in omega (arith, g.number_low, z.0, same)
                | inr f ↦ times.over a w.number w.stamp (rw same f.1.finish) new.active
              ])
            ];
          };
          wall = λ ne. let w = q.wall ne in omega (arith, w, adv.floors);
        }

    pub reads_kept : Rows v h s → ((x : ℕ) → x < length v.items → Advance P h s h' s' (level_of v.items x) x)
        → (g : List Event) → ReadsKept P v h s g → ReadsKept P v h' s' g
    reads_kept rows adv [] r = tt
    reads_kept rows adv (idle ∷ g) r = reads_kept rows adv g r
    reads_kept rows adv (began l n t ∷ g) r = reads_kept rows adv g r
    reads_kept rows adv (saw l n x b ∷ g) r = (
      record {
        known = r.0.known;
        stamp = r.0.stamp;
        start = (adv x r.0.known).starts l n r.0.stamp r.0.start;
        lower = r.0.lower;
        right = elim r.0.right [
          | inl own ↦ inl own
          | inr out ↦ inr (out.0, outside_kept (level_of v.items x) l n r.0.stamp x b (rows x r.0.known) (adv x r.0.known) out.1)
        ];
      },
      reads_kept rows adv g r.1,
    )
    reads_kept rows adv (stored l n x b ∷ g) r = reads_kept rows adv g r
    reads_kept rows adv (ended l n ∷ g) r = reads_kept rows adv g r
