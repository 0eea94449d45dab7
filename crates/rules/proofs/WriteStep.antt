-- Accepted writes keep the invariant: over the own version, and with a new one that no later reader has to see. Assumes nothing.
use Rattle.std.proofs.Common.{◌≡◌, ℕ, ◌+◌, ◌<◌, ◌≤◌, true, ◌&&◌, eqb, ◌⊎◌, List, [], ◌∷◌, length, Some, sym, refl, ap, ◌∙◌, subst, inl, inr, arith}
use Rattle.std.specs.List.{slice_get}
use Rattle.std.proofs.lemmas.Bool.{cases_eq, eq-eqb, ne_eqb, both_ways, and_from, and_left, and_right, cond-true, cond-false, ltb-true, lt-ltb}
use Rattle.orders.specs.Orders.{PartialOrder}
use Rattle.shelves.specs.Edits.{row_after}
use Rattle.shelves.specs.Items.{Item, level_of, row_of, items_after}
use Rattle.shelves.specs.Rows.{keeps_rule}
use Rattle.shelves.specs.declared.edit.Edit.{Edit}
use Rattle.shelves.specs.declared.edit.Edit.TheVariants.{Put, Insert, Remove}
use Rattle.shelves.specs.declared.version.State.TheVariants.{Committed, Pending}
use Rattle.shelves.specs.declared.version.Version.{Version}
use Rattle.tables.specs.declared.place.Held.{Held}
use Rattle.rules.specs.Choices.{numbered, before, with_value, pending}
use Rattle.rules.specs.Members.{In}
use Rattle.rules.specs.States.{Parts, State, items_through, edits_of}
use Rattle.rules.specs.Steps.{two_committed, write_edits}
use Rattle.rules.specs.declared.decision.Writing.{Writing}
use Rattle.rules.proofs.Advance.{Newcomer, Advance, reads_kept}
use Rattle.rules.proofs.History.{Event, stored, last_stored, Began, Ended}
use Rattle.rules.proofs.Inside.{in_nth}
use Rattle.rules.proofs.Invariant.{ActiveIn, Stores, Owned, Original, RowKept, Live, Inv}
use Rattle.rules.proofs.Inverted.{IsSender, OwnWriting, NewWriting}
use Rattle.rules.proofs.Mild.{Mild, stored_mild, began_back, ended_back, stored_elsewhere, times_mild, row_mild, moved, floor_moved, advance_mild, same_numbers}
use Rattle.rules.proofs.ReadStep.{pending_committed, AnItem, an_item, sender_active, own_version, Own, frame_edited}
use Rattle.rules.proofs.Rewritten.{WritersStand, replaced_kept}
use Rattle.rules.proofs.Rowed.{IsLast, last_some, last_none, Ruled, ruled, last_largest, Replaced, put_row, Gains, insert_row, Turns, drop_insert_row, length_after, row_edited, row_other}

-- a row after several edits
abbrev pub row_through : List Edit → List Version → List Version
row_through [] row = row
row_through (e ∷ es) row = row_through es (row_after e row)

pub rows_through : (x : ℕ) (es : List Edit) (its : List Item) → x < length its → row_of (items_through its (edits_of x es)) x ≡ row_through es (row_of its x)
rows_through x [] its lt = refl
rows_through x (e ∷ es) its lt =
    rows_through x es (items_after its x e) (omega (arith, length_after its (edits_of x (e ∷ []))))
    ∙ ap (row_through es) (row_edited its x e lt)

pub rows_elsewhere : (x y : ℕ) (es : List Edit) (its : List Item) → (y ≡ x → ⊥) → row_of (items_through its (edits_of x es)) y ≡ row_of its y
rows_elsewhere x y [] its ne = refl
rows_elsewhere x y (e ∷ es) its ne = rows_elsewhere x y es (items_after its x e) ne ∙ row_other its x y e ne

pub stored_here : (h : List Event) (l n x b : ℕ) → last_stored (stored l n x b ∷ h) l n x ≡ Some b
stored_here h l n x b =
    cond-true (eqb l l && (eqb n n && eqb x x)) (Some b) (last_stored h l n x)
    (and_from (eqb l l) (eqb n n && eqb x x) (eq-eqb l l refl) (and_from (eqb n n) (eqb x x) (eq-eqb n n refl) (eq-eqb x x refl)))

stored_not_here : (h : List Event) (l n x b a k : ℕ) → (k ≡ n → ⊥) → last_stored (stored l n x b ∷ h) a k x ≡ last_stored h a k x
stored_not_here h l n x b a k ne =
    cond-false (eqb l a && (eqb n k && eqb x x)) (Some b) (last_stored h a k x)
    (and_right (eqb l a) (eqb n k && eqb x x) (and_left (eqb n k) (eqb x x) (ne_eqb n k (λ e. ne (sym e)))))

-- a row with one version more, and perhaps without a committed one that is older than all others
record Grows (row next : List Version) (w : Version) : Type 0 where
  rule : keeps_rule next ≡ true
  new : In w next
  only : (z : Version) → In z next → (z ≡ w) ⊎ In z row
  rest : (u : Version) → In u row
      → In u next ⊎ ((u.state ≡ Committed) × ((z : Version) → In z row → u.number ≤ z.number) × ((z : Version) → In z next → (z ≡ w) ⊎ (u.number < z.number)))

gains_grow : (row next : List Version) (w : Version) → Gains row next w → Grows row next w
gains_grow row next w g = record { rule = g.rule; new = g.new; only = g.only; rest = λ u i. inl (g.kept u i) }

turns_grow : (row next : List Version) (w : Version) → Ruled row → Turns row next w → Grows row next w
turns_grow row next w r t = record {
  rule = t.rule;
  new = t.new;
  only = λ z i. elim (t.only z i) [ inl e ↦ inl e | inr old ↦ inr old.0 ];
  rest = λ u i. elim (cases_eq u.number t.oldest.number) [
    | inl e ↦
        let same : u ≡ t.oldest = r.distinct u t.oldest i t.stood e in
        inr (
          ap (λ (y : Version). y.state) same ∙ t.old_committed,
          λ z j. omega (arith, t.least z j, e),
          λ z j. elim (t.only z j) [
            | inl q ↦ inl q
            | inr old ↦ let le = t.least z old.0 in inr (omega (arith, le, old.1, e))
          ],
        )
    | inr ne ↦ inl (t.kept u i ne)
  ];
}

module _ (P : Parts) (lawful : PartialOrder P.order) (v : State) (h : List Event) (s : State) (I : Inv P v h s)
    (l n x b : ℕ) (hd : Held) (from : IsSender P s l n hd) (it : Item) (found : slice_get s.items x ≡ Some it) (own : it.level ≡ l) where
  pub record Facts : Type 0 where
    pub here : AnItem v s x it
    pub kept : RowKept v h s.tables l x (row_of s.items x)
    pub level : level_of v.items x ≡ l
    pub active : ActiveIn s.tables l n hd.stamp
    pub start : Began h l n hd.stamp
    pub positive : 1 ≤ n
    pub not_over : Ended h l n → ⊥

  pub facts : Facts
  facts =
      let here : AnItem v s x it = an_item v s x it I.frame found in
      let level : level_of v.items x ≡ l = here.level ∙ own in
      let active : ActiveIn s.tables l n hd.stamp = sender_active P s l n hd from in
      let start = I.times.active l n hd.stamp active in
      record {
        here = here;
        kept = subst (λ a. RowKept v h s.tables a x (row_of s.items x)) level (I.rows x here.known);
        level = level;
        active = active;
        start = start;
        positive = (I.times.given l n hd.stamp start).number_low;
        not_over = λ i. I.times.over l n hd.stamp i active;
      }

  write_stores : Stores v (stored l n x b ∷ h)
  write_stores = record {
    began = λ a k y c i. elim i [
      | inl q ↦
          let ea : l ≡ a = cc in
          let ek : n ≡ k = cc in
          (hd.stamp, inr (subst (λ z. Began h z k hd.stamp) ea (subst (λ z. Began h l z hd.stamp) ek facts.start)))
      | inr j ↦ let f = I.stores.began a k y c j in (f.0, inr f.1)
    ];
    own = λ a k y c i. elim i [
      | inl q ↦ let ea : l ≡ a = cc in let ey : x ≡ y = cc in ap (level_of v.items) (sym ey) ∙ facts.level ∙ ea
      | inr j ↦ I.stores.own a k y c j
    ];
    known = λ a k y c i. elim i [
      | inl q ↦ let ey : x ≡ y = cc in omega (arith, ey, facts.here.known)
      | inr j ↦ I.stores.known a k y c j
    ];
  }

  -- versions of other transactions are owned as before
  owned_later : (z : Version) → (z.number ≡ n → ⊥) → Original v x z ⊎ Owned h s.tables l x z → Original v x z ⊎ Owned (stored l n x b ∷ h) s.tables l x z
  owned_later z ne (inl o) = inl o
  owned_later z ne (inr o) = inr (record {
    start = inr o.start;
    value = stored_not_here h l n x b l z.number ne ∙ o.value;
    state = elim o.state [ inl p ↦ inl p | inr c ↦ inr (c.0, inr c.1) ];
  })

  -- the version of transaction n, pending
  own_owned : (w : Version) → w.number ≡ n → w.stamp ≡ hd.stamp → w.state ≡ Pending → w.value ≡ b → Owned (stored l n x b ∷ h) s.tables l x w
  own_owned w en et es eb = record {
    start = inr (subst (λ z. Began h l w.number z) (sym et) (subst (λ z. Began h l z hd.stamp) (sym en) facts.start));
    value = ap (λ k. last_stored (stored l n x b ∷ h) l k x) en ∙ stored_here h l n x b ∙ ap Some (sym eb);
    state = inl (es, subst (λ z. ActiveIn s.tables l w.number z) (sym et) (subst (λ z. ActiveIn s.tables l z hd.stamp) (sym en) facts.active));
  }

  module _ (es : List Edit) where
    its : List Item
    its = items_through s.items (edits_of x es)

    -- from the row of x, and what its readers keep
    inv_write : RowKept v (stored l n x b ∷ h) s.tables l x (row_of its x)
        → ((j r c : ℕ) → Live (stored l n x b ∷ h) s.tables l x j r c → ((d : ℕ) × Live h s.tables l x j r d) ⊎ Newcomer s.tables l (row_of s.items x) j r)
        → ((w : Version) → In w (row_of its x)
        → ((u : Version) × In u (row_of s.items x) × (u.number ≡ w.number) × (u.mark ≤ w.mark)) ⊎ Newcomer s.tables l (row_of s.items x) w.number w.stamp)
        → Inv P v (stored l n x b ∷ h) (moved s s.clock (items_through s.items (edits_of x es)))
    unfolding its
    inv_write row writers versions =
        let ev : Event = stored l n x b in
        let m : Mild ev = stored_mild l n x b in
        let edits = edits_of x es in
        let next : State = moved s s.clock (items_through s.items edits) in
        let here_advance : Advance P h s (ev ∷ h) next l x = record {
          starts = λ a k t i. inr i;
          ends = λ a k i. inr i;
          stores = λ k c i q. stored_not_here h l n x b l k (λ e. facts.not_over (subst (λ z. Ended h l z) e i)) ∙ q;
          writers = writers;
          versions = versions;
          floors = floor_moved P s s.clock (items_through s.items edits) l (omega arith);
        } in
        record {
          frame = frame_edited v s edits I.frame;
          times = times_mild P h s.tables ev m I.times;
          stores = write_stores;
          rows = λ y lt. elim (cases_eq y x) [
            | inl e ↦ subst (λ z. RowKept v (ev ∷ h) s.tables (level_of v.items z) z (row_of (items_through s.items edits) z)) (sym e)
                (subst (λ a. RowKept v (ev ∷ h) s.tables a x (row_of (items_through s.items edits) x)) (sym facts.level) row)
            | inr ne ↦ rw (rows_elsewhere x y es s.items ne)
                (row_mild v h s.tables (level_of v.items y) y (row_of s.items y) ev m (stored_elsewhere h l n x b y ne) (I.rows y lt))
          ];
          reads = reads_kept P lawful v h s I.times (ev ∷ h) next I.rows
              (λ y lt. elim (cases_eq y x) [
                | inl e ↦ subst (λ z. Advance P h s (ev ∷ h) next (level_of v.items z) z) (sym e)
                    (subst (λ a. Advance P h s (ev ∷ h) next a x) (sym facts.level) here_advance)
                | inr ne ↦ advance_mild P h s (level_of v.items y) y ev m (stored_elsewhere h l n x b y ne) s.clock (items_through s.items edits) (omega arith)
                    (rw (rows_elsewhere x y es s.items ne) (same_numbers (row_of s.items y)))
              ]) h I.reads;
        }

  -- over the own version
  module _ (w : Writing) (q : OwnWriting n b it w) where
    pub over : Own v h s.tables l n x (row_of s.items x) q.chosen
    over = own_version P v h s I l n hd.stamp x facts.active (row_of s.items x) facts.kept q.chosen (rw facts.here.row q.last)

    over_stamp : q.chosen.version.stamp ≡ hd.stamp
    over_stamp =
        I.times.once l n q.chosen.version.stamp hd.stamp (subst (λ z. Began h l z q.chosen.version.stamp) over.number over.owner.start)
        facts.start

    pub over_changed : Replaced (row_of s.items x) (row_of (items_through s.items (edits_of x (Put q.chosen.place (with_value b q.chosen.version) ∷ []))) x)
        q.chosen.version (with_value b q.chosen.version)
    over_changed =
        rw (rows_through x (Put q.chosen.place (with_value b q.chosen.version) ∷ []) s.items facts.here.within)
        (put_row (row_of s.items x) q.chosen.place q.chosen.version (with_value b q.chosen.version) facts.kept.rule over.there refl refl (inl refl))

    -- before and after, the same transactions have written x
    over_writers : WritersStand (stored l n x b ∷ h) s.tables l x (row_of s.items x)
    over_writers = record {
      active = λ k t c p i. elim (cases_eq k n) [
        | inl e ↦ (q.chosen.version, over.stands, over.number ∙ sym e)
        | inr ne ↦ facts.kept.active_writer k t c (sym (stored_not_here h l n x b l k ne) ∙ p) i
      ];
      done = λ k c p i. elim (cases_eq k n) [
        | inl e ↦ absurd (facts.not_over (subst (λ z. Ended h l z) e (ended_back (stored l n x b) h (stored_mild l n x b) l k i)))
        | inr ne ↦ facts.kept.ended_writer k c (sym (stored_not_here h l n x b l k ne) ∙ p) (ended_back (stored l n x b) h (stored_mild l n x b) l k i)
      ];
    }

    over_live : (j r c : ℕ) → Live (stored l n x b ∷ h) s.tables l x j r c → (d : ℕ) × Live h s.tables l x j r d
    over_live j r c live =
        let m = stored_mild l n x b in
        let start = began_back (stored l n x b) h m l j r live.start in
        let alive : ActiveIn s.tables l j r ⊎ Ended h l j = elim live.live [ inl i ↦ inl i | inr i ↦ inr (ended_back (stored l n x b) h m l j i) ] in
        elim (cases_eq j n) [
          | inl e ↦ (q.chosen.version.value, record { start = start; live = alive; stores = ap (λ k. last_stored h l k x) (e ∙ sym over.number) ∙ over.owner.value })
          | inr ne ↦ (c, record { start = start; live = alive; stores = sym (stored_not_here h l n x b l j ne) ∙ live.stores })
        ]

    pub inv_over : Inv P v (stored l n x b ∷ h) (moved s s.clock (items_through s.items (edits_of x (Put q.chosen.place (with_value b q.chosen.version) ∷ []))))
    unfolding its
    inv_over =
        let row : List Version = row_of s.items x in
        inv_write (Put q.chosen.place (with_value b q.chosen.version) ∷ [])
        (replaced_kept v (stored l n x b ∷ h) s.tables l x row _ q.chosen.version (with_value b q.chosen.version) over.stands refl over_changed
        (inr (own_owned (with_value b q.chosen.version) over.number over_stamp over.state refl))
        (λ z i ne. owned_later z (λ e. ne (e ∙ sym over.number)) (facts.kept.version z i))
        over_writers)
        (λ j r c live. inl (over_live j r c live))
        (λ z i. elim (over_changed.only z i) [
          | inl e ↦ inl (q.chosen.version, over.stands, ap (λ (y : Version). y.number) (sym e), omega (arith, ap (λ (y : Version). y.mark) e))
          | inr old ↦ inl (z, old.0, refl, omega arith)
        ])

  -- a new version
  module _ (w : Writing) (q : NewWriting n hd.stamp b it w) where
    pub fresh : (z : Version) → In z (row_of s.items x) → z.number ≡ n → ⊥
    fresh z i e =
        let none = last_none (numbered n) (row_of s.items x) (rw facts.here.row q.none) z i in
        both_ways (numbered n z) none (eq-eqb z.number n e)

    pub behind : IsLast (before n) (row_of s.items x) q.chosen
    behind = last_some (before n) (row_of s.items x) q.chosen (rw facts.here.row q.last)

    pub stamps_below : (u : Version) → In u (row_of s.items x) → u.number < n → u.stamp ≤ hd.stamp
    stamps_below u i lt = elim (facts.kept.version u i) [
      | inl o ↦ omega (arith, o.stamp)
      | inr o ↦ I.times.rising l u.number u.stamp n hd.stamp o.start facts.start lt
    ]

    pub stamps_above : (u : Version) → In u (row_of s.items x) → n < u.number → hd.stamp ≤ u.stamp
    stamps_above u i lt = elim (facts.kept.version u i) [
      | inl o ↦ absurd (omega (arith, o.number, lt))
      | inr o ↦ I.times.rising l n hd.stamp u.number u.stamp facts.start o.start lt
    ]

    predecessor_stands : In q.chosen.version (row_of s.items x)
    predecessor_stands = in_nth (row_of s.items x) q.chosen.place q.chosen.version behind.there

    predecessor_below : q.chosen.version.number < n
    predecessor_below = ltb-true q.chosen.version.number n behind.passes

    newcomer : Newcomer s.tables l (row_of s.items x) n hd.stamp
    newcomer = record {
      active = facts.active;
      blocked = record {
        predecessor = q.chosen.version;
        stands = predecessor_stands;
        below = predecessor_below;
        unread = q.unread;
        nearest = λ z i lt. last_largest (before n) (row_of s.items x) q.chosen facts.kept.rule behind z i (lt-ltb z.number n lt);
      };
    }

    -- the row after it grew
    module _ (next : List Version) (g : Grows (row_of s.items x) next (pending n hd.stamp b)) where
      grown_kept : RowKept v (stored l n x b ∷ h) s.tables l x next
      grown_kept =
          let m = stored_mild l n x b in
          record {
            rule = g.rule;
            version = λ z i. elim (g.only z i) [
              | inl e ↦ inr (own_owned z (ap (λ (y : Version). y.number) e) (ap (λ (y : Version). y.stamp) e) (ap (λ (y : Version). y.state) e) (ap (λ (y : Version). y.value) e))
              | inr old ↦ owned_later z (fresh z old) (facts.kept.version z old)
            ];
            active_writer = λ k t c p i. elim (cases_eq k n) [
              | inl e ↦ (pending n hd.stamp b, g.new, sym e)
              | inr ne ↦ still_active k t i (facts.kept.active_writer k t c (sym (stored_not_here h l n x b l k ne) ∙ p) i)
            ];
            ended_writer = λ k c p i. elim (cases_eq k n) [
              | inl e ↦ absurd (facts.not_over (subst (λ z. Ended h l z) e (ended_back (stored l n x b) h m l k i)))
              | inr ne ↦ still_done k (facts.kept.ended_writer k c (sym (stored_not_here h l n x b l k ne) ∙ p) (ended_back (stored l n x b) h m l k i))
            ];
          }
        where
          still_active : (k t : ℕ) → ActiveIn s.tables l k t → (z : Version) × In z (row_of s.items x) × (z.number ≡ k) → (z : Version) × In z next × (z.number ≡ k)
          still_active k t active f =
              elim (g.rest f.0 f.1) [
                | inl i ↦ (f.0, i, f.2)
                | inr gone ↦ absurd (elim (facts.kept.version f.0 f.1) [
                  | inl o ↦ let given = I.times.given l k t (I.times.active l k t active) in omega (arith, o.number, f.2, given.number_low)
                  | inr o ↦ elim o.state [
                    | inl p ↦ pending_committed p.0 gone.0
                    | inr c ↦ I.times.over l k t (subst (λ z. Ended h l z) f.2 c.1) active
                  ]
                ])
              ]

          all_above : (k : ℕ) → k < n → ((z : Version) → In z next → (z ≡ pending n hd.stamp b) ⊎ (k < z.number)) → (z : Version) → In z next → k < z.number
          all_above k lt f z i = elim (f z i) [ inl e ↦ omega (arith, ap (λ (y : Version). y.number) e, lt) | inr far ↦ far ]

          still_done : (k : ℕ) → ((z : Version) × In z (row_of s.items x) × (z.number ≡ k)) ⊎ ((z : Version) → In z (row_of s.items x) → k < z.number)
              → ((z : Version) × In z next × (z.number ≡ k)) ⊎ ((z : Version) → In z next → k < z.number)
          still_done k (inl f) =
              elim (g.rest f.0 f.1) [
                | inl i ↦ inl (f.0, i, f.2)
                | inr gone ↦ inr (all_above k (omega (arith, f.2, gone.1 q.chosen.version predecessor_stands, predecessor_below))
                    (λ z i. elim (gone.2 z i) [ inl e ↦ inl e | inr far ↦ inr (omega (arith, far, f.2)) ]))
              ]
          still_done k (inr f) =
              let far = f q.chosen.version predecessor_stands in
              inr (all_above k (omega (arith, far, predecessor_below)) (λ z i. elim (g.only z i) [ inl e ↦ inl e | inr old ↦ inr (f z old) ]))

      grown_live : (j r c : ℕ) → Live (stored l n x b ∷ h) s.tables l x j r c → ((d : ℕ) × Live h s.tables l x j r d) ⊎ Newcomer s.tables l (row_of s.items x) j r
      grown_live j r c live =
          let m = stored_mild l n x b in
          let start = began_back (stored l n x b) h m l j r live.start in
          elim (cases_eq j n) [
            | inl e ↦
                let same : hd.stamp ≡ r = I.times.once l n hd.stamp r facts.start (subst (λ z. Began h l z r) e start) in
                inr (subst (λ k. Newcomer s.tables l (row_of s.items x) k r) (sym e) (subst (λ t. Newcomer s.tables l (row_of s.items x) n t) same newcomer))
            | inr ne ↦ inl (
              c,
              record {
                start = start;
                live = elim live.live [ inl i ↦ inl i | inr i ↦ inr (ended_back (stored l n x b) h m l j i) ];
                stores = sym (stored_not_here h l n x b l j ne) ∙ live.stores;
              },
            )
          ]

      grown_versions : (z : Version) → In z next
          → ((u : Version) × In u (row_of s.items x) × (u.number ≡ z.number) × (u.mark ≤ z.mark)) ⊎ Newcomer s.tables l (row_of s.items x) z.number z.stamp
      grown_versions z i = elim (g.only z i) [
        | inl e ↦ inr (subst (λ y. Newcomer s.tables l (row_of s.items x) y.number y.stamp) (sym e) newcomer)
        | inr old ↦ inl (z, old, refl, omega arith)
      ]

    inv_grown : (es : List Edit) → Grows (row_of s.items x) (row_through es (row_of s.items x)) (pending n hd.stamp b)
        → Inv P v (stored l n x b ∷ h) (moved s s.clock (items_through s.items (edits_of x es)))
    unfolding its
    inv_grown es g =
        let next : List Version = row_of (items_through s.items (edits_of x es)) x in
        let grown : Grows (row_of s.items x) next (pending n hd.stamp b) = rw (rows_through x es s.items facts.here.within) g in
        inv_write es (grown_kept next grown) (grown_live next grown) (grown_versions next grown)

    pub inv_new : Inv P v (stored l n x b ∷ h) (moved s s.clock (items_through s.items (edits_of x (write_edits w))))
    inv_new =
        let row : List Version = row_of s.items x in
        let pv : Version = pending n hd.stamp b in
        elim q.room [
          | inl r ↦
              let short : length row < 8 = rw facts.here.row r.0 in
              subst (λ y. Inv P v (stored l n x b ∷ h) (moved s s.clock (items_through s.items (edits_of x (write_edits y))))) (sym r.1)
              (inv_grown (Insert (q.chosen.place + 1) pv ∷ [])
              (gains_grow row _ pv (insert_row row q.chosen pv facts.kept.rule short behind fresh stamps_below stamps_above)))
          | inr r ↦
              let full : 8 ≤ length row = rw facts.here.row r.0 in
              let two : two_committed row ≡ true = rw facts.here.row r.1 in
              subst (λ y. Inv P v (stored l n x b ∷ h) (moved s s.clock (items_through s.items (edits_of x (write_edits y))))) (sym r.2)
              (inv_grown (Remove 0 ∷ Insert q.chosen.place pv ∷ [])
              (turns_grow row _ pv (ruled row facts.kept.rule) (drop_insert_row row q.chosen pv facts.kept.rule full two behind fresh stamps_below stamps_above)))
        ]
