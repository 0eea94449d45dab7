-- Accepted begins keep the invariant: the new stamp is not below the bound. Assumes nothing.
use Rattle.std.proofs.Common.{◌≡◌, ℕ, ◌<◌, ◌≤◌, true, not, eqb, ◌⊎◌, List, ◌∷◌, map, length, set, Some, sym, refl, ap, ◌∙◌, subst, inl, inr, arith, get_or-set_other, get_or-set_same}
use Rattle.std.specs.List.{slice_get}
use Rattle.std.proofs.lemmas.List.{length-set}
use Rattle.std.proofs.lemmas.Bool.{cases_eq, and_parts}
use Rattle.placements.specs.Placings.{Within}
use Rattle.shelves.specs.Items.{level_of, row_of}
use Rattle.shelves.specs.declared.version.Version.{Version}
use Rattle.tables.specs.Tables.{empty_table, filled}
use Rattle.tables.specs.declared.place.Place.TheVariants.{Free, Open}
use Rattle.tables.specs.declared.table.Table.{Table}
use Rattle.rules.specs.Members.{In}
use Rattle.rules.specs.Starts.{Lawful}
use Rattle.rules.specs.States.{Parts, State, with_table}
use Rattle.rules.specs.Steps.{lowest, stamp_for}
use Rattle.rules.specs.Watermarks.{floor, bound, below, entry}
use Rattle.rules.specs.declared.decision.Admission.{Admission}
use Rattle.rules.proofs.Advance.{Advance, reads_kept}
use Rattle.rules.proofs.History.{Event, began, last_stored, Began, Ended, stored_in}
use Rattle.rules.proofs.Invariant.{table_of, ActiveIn, Times, RowKept, Inv}
use Rattle.rules.proofs.Inverted.{IsAdmission}
use Rattle.rules.proofs.Marks.{floor_is, bound_is, floor_from, floor_below, bound_from}
use Rattle.rules.proofs.Mild.{stores_mild, same_numbers}
use Rattle.rules.proofs.Tabled.{free_some, Distinct, Fills, fills, by_level}

-- the placement is asked with room between the bounds
pub lowest_room : (P : Parts) (h : List Event) (v s : State) → Inv P v h s → (l : ℕ) → lowest P s l ≤ s.clock
lowest_room P h v s I l = omega (arith, (bound_is P s l).clock, I.frame.stamps l)

-- no active transaction that a lets itself be held back by stands below the floor of a
pub floor_dominates : (P : Parts) → Lawful P → (s : State) (a l : ℕ) → P.order.dominates a l ≡ true → floor P s a ≤ bound P s l
floor_dominates P lawful s a l d =
    bound_from P s l (floor P s a) (floor_is P s a).clock
    (λ c n t q i. floor_below P s a c n t (lawful.order.transitive a l c d (and_parts (P.order.dominates l c) (not (eqb l c)) q).0) i)

-- transaction n with stamp t is active now, beside the others
record Joins (ts next : List Table) (l n t : ℕ) : Type 0 where
  new : ActiveIn next l n t
  kept : (a k r : ℕ) → ActiveIn ts a k r → ActiveIn next a k r
  only : (a k r : ℕ) → ActiveIn next a k r → ((a ≡ l) × (k ≡ n) × (r ≡ t)) ⊎ ActiveIn ts a k r
  number : (table_of next l).number ≡ n
  stamp : (table_of next l).stamp ≡ t
  others : (a : ℕ) → (a ≡ l → ⊥) → table_of next a ≡ table_of ts a
  distinct : (a : ℕ) → Distinct (table_of next a).places
  count : length next ≡ length ts

joins : (ts : List Table) (l i n t : ℕ) → l < length ts → ((a : ℕ) → Distinct (table_of ts a).places) → ((r : ℕ) → ActiveIn ts l n r → ⊥)
    → slice_get (table_of ts l).places i ≡ Some Free → Joins ts (set ts l (filled (table_of ts l) i n t)) l n t
joins ts l i n t lt d fresh e =
    let T : Table = filled (table_of ts l) i n t in
    let next : List Table = set ts l T in
    let here : table_of next l ≡ T = get_or-set_same ts l T empty_table lt in
    let there : (a : ℕ) → (a ≡ l → ⊥) → table_of next a ≡ table_of ts a = λ a ne. get_or-set_other ts l a T empty_table ne in
    let F : Fills (table_of ts l).places (set (table_of ts l).places i (Open n t)) n t = fills (table_of ts l).places i n t (d l) fresh e in
    record {
      new = subst (λ (y : Table). In (Open n t) y.places) (sym here) F.new;
      kept = λ a k r. by_level ts l T lt (λ b y. ActiveIn ts b k r → In (Open k r) y.places) (λ j. F.kept k r j) (λ b ne j. j) a;
      only = λ a k r. by_level ts l T lt (λ b y. In (Open k r) y.places → ((b ≡ l) × (k ≡ n) × (r ≡ t)) ⊎ ActiveIn ts b k r)
          (λ j. elim (F.only k r j) [ inl q ↦ inl (refl, q.0, q.1) | inr o ↦ inr o ]) (λ b ne j. inr j) a;
      number = ap (λ (y : Table). y.number) here;
      stamp = ap (λ (y : Table). y.stamp) here;
      others = there;
      distinct = by_level ts l T lt (λ b y. Distinct y.places) F.distinct (λ b ne. d b);
      count = length-set ts l T;
    }

module _ (P : Parts) (lawful : Lawful P) (v : State) (h : List Event) (s : State) (I : Inv P v h s)
    (l d : ℕ) (a : Admission) (q : IsAdmission P s l d a) where
  record Stamped : Type 0 where
    low : lowest P s l ≤ a.stamp
    high : a.stamp ≤ s.clock
    one : 1 ≤ a.stamp
    bound : bound P s l ≤ a.stamp
    last : (table_of s.tables l).stamp ≤ a.stamp

  stamped : Stamped
  stamped =
      let w : Within (lowest P s l) s.clock (stamp_for P s l d) = lawful.placing d (lowest P s l) s.clock (map entry (below P s l)) in
      let one : 1 ≤ bound P s l = bound_from P s l 1 I.frame.clock (λ c k r _ i. (I.times.given c k r (I.times.active c k r i)).stamp_low) in
      let room = lowest_room P h v s I l in
      let high = w.high room in
      record {
        low = omega (arith, w.low, q.stamp);
        high = omega (arith, high, q.stamp);
        one = omega (arith, one, w.low, q.stamp);
        bound = omega (arith, w.low, q.stamp);
        last = omega (arith, w.low, q.stamp);
      }

  -- number n was not given before
  unused : (r : ℕ) → Began h l a.number r → ⊥
  unused r i = let g = I.times.given l a.number r i in omega (arith, g.number, q.number)

  next : List Table
  next = set s.tables l (filled (table_of s.tables l) a.place a.number a.stamp)

  J : Joins s.tables next l a.number a.stamp
  unfolding next
  J =
      joins s.tables l a.place a.number a.stamp (omega (arith, q.level, lawful.order.few_levels, I.frame.tables)) I.times.distinct
      (λ r i. unused r (I.times.active l a.number r i)) (free_some (table_of s.tables l).places a.place q.place)

  -- a begin in the new history
  cases_began : (b k r : ℕ) → Began (began l a.number a.stamp ∷ h) b k r → ((b ≡ l) × (k ≡ a.number) × (r ≡ a.stamp)) ⊎ Began h b k r
  cases_began b k r (inl e) = let eb : l ≡ b = cc in let ek : a.number ≡ k = cc in let er : a.stamp ≡ r = cc in inl (sym eb, sym ek, sym er)
  cases_began b k r (inr i) = inr i

  ended_before : (b k : ℕ) → Ended (began l a.number a.stamp ∷ h) b k → Ended h b k
  ended_before b k (inl e) = absurd cc
  ended_before b k (inr i) = i

  old_given : (b k r : ℕ) → Began h b k r → (k ≤ (table_of next b).number) × (r ≤ (table_of next b).stamp)
  old_given b k r i =
      let g = I.times.given b k r i in
      elim (cases_eq b l) [
        | inl e ↦
            let num : (table_of next b).number ≡ a.number = ap (λ c. (table_of next c).number) e ∙ J.number in
            let stm : (table_of next b).stamp ≡ a.stamp = ap (λ c. (table_of next c).stamp) e ∙ J.stamp in
            let on : (table_of s.tables b).number ≡ (table_of s.tables l).number = ap (λ c. (table_of s.tables c).number) e in
            let os : (table_of s.tables b).stamp ≡ (table_of s.tables l).stamp = ap (λ c. (table_of s.tables c).stamp) e in
            (omega (arith, num, on, g.number, q.number), omega (arith, stm, os, g.stamp, stamped.last))
        | inr ne ↦
            let same = J.others b ne in
            (omega (arith, ap (λ (y : Table). y.number) same, g.number), omega (arith, ap (λ (y : Table). y.stamp) same, g.stamp))
      ]

  begin_times : Times P (began l a.number a.stamp ∷ h) next
  begin_times =
      let T = I.times in
      record {
        given = λ b k r i. elim (cases_began b k r i) [
          | inl e ↦
              let num : (table_of next b).number ≡ a.number = ap (λ c. (table_of next c).number) e.0 ∙ J.number in
              let stm : (table_of next b).stamp ≡ a.stamp = ap (λ c. (table_of next c).stamp) e.0 ∙ J.stamp in
              record {
                level = omega (arith, e.0, q.level);
                number_low = omega (arith, e.1, q.number);
                number = omega (arith, e.1, num);
                stamp_low = omega (arith, e.2, stamped.one);
                stamp = omega (arith, e.2, stm);
              }
          | inr o ↦
              let g = T.given b k r o in
              let f = old_given b k r o in
              record { level = g.level; number_low = g.number_low; number = f.0; stamp_low = g.stamp_low; stamp = f.1 }
        ];
        once = λ b k r u i j. elim (cases_began b k r i) [
          | inl e ↦ elim (cases_began b k u j) [ inl f ↦ e.2 ∙ sym f.2 | inr o ↦ absurd (used b k u e.0 e.1 o) ]
          | inr o ↦ elim (cases_began b k u j) [ inl f ↦ absurd (used b k r f.0 f.1 o) | inr p ↦ T.once b k r u o p ]
        ];
        rising = λ b k r m u i j lt. elim (cases_began b k r i) [
          | inl e ↦ elim (cases_began b m u j) [
            | inl f ↦ absurd (omega (arith, e.1, f.1, lt))
            | inr o ↦ absurd (omega (arith, later b m u e.0 o, e.1, lt))
          ]
          | inr o ↦ elim (cases_began b m u j) [
            | inl f ↦ omega (arith, earlier b k r f.0 o, f.2)
            | inr p ↦ T.rising b k r m u o p lt
          ]
        ];
        active = λ b k r i. elim (J.only b k r i) [
          | inl e ↦ inl (same_began b k r e)
          | inr o ↦ inr (T.active b k r o)
        ];
        distinct = J.distinct;
        over = λ b k r i j. elim (J.only b k r j) [
          | inl e ↦ let f = T.ended_began b k (ended_before b k i) in used b k f.0 e.0 e.1 f.1
          | inr o ↦ T.over b k r (ended_before b k i) o
        ];
        ended_began = λ b k i. let f = T.ended_began b k (ended_before b k i) in (f.0, inr f.1);
      }
    where
      used : (b k r : ℕ) → b ≡ l → k ≡ a.number → Began h b k r → ⊥
      used b k r e f i = unused r (subst (λ c. Began h c a.number r) e (subst (λ c. Began h b c r) f i))

      later : (b m u : ℕ) → b ≡ l → Began h b m u → m < a.number
      later b m u e i = let g = I.times.given b m u i in omega (arith, g.number, ap (λ c. (table_of s.tables c).number) e, q.number)

      earlier : (b k r : ℕ) → b ≡ l → Began h b k r → r ≤ a.stamp
      earlier b k r e i = let g = I.times.given b k r i in omega (arith, g.stamp, ap (λ c. (table_of s.tables c).stamp) e, stamped.last)

      same_began : (b k r : ℕ) → (b ≡ l) × (k ≡ a.number) × (r ≡ a.stamp) → began l a.number a.stamp ≡ began b k r
      same_began b k r e = let eb = e.0 in let ek = e.1 in let er = e.2 in cc

  -- a transaction that has just begun has written nothing
  wrote_nothing : (b k x c : ℕ) → b ≡ l → k ≡ a.number → last_stored h b k x ≡ Some c → ⊥
  wrote_nothing b k x c e f w =
      let g = I.stores.began b k x c (stored_in h b k x c w) in
      unused g.0 (subst (λ m. Began h m a.number g.0) e (subst (λ m. Began h b m g.0) f g.1))

  begin_row : (b y : ℕ) (row : List Version) → RowKept v h s.tables b y row → RowKept v (began l a.number a.stamp ∷ h) next b y row
  begin_row b y row r = record {
    rule = r.rule;
    version = λ z i. elim (r.version z i) [
      | inl o ↦ inl o
      | inr o ↦ inr (record {
        start = inr o.start;
        value = o.value;
        state = elim o.state [ inl p ↦ inl (p.0, J.kept b z.number z.stamp p.1) | inr c ↦ inr (c.0, inr c.1) ];
      })
    ];
    active_writer = λ k u c w i. elim (J.only b k u i) [
      | inl e ↦ absurd (wrote_nothing b k y c e.0 e.1 w)
      | inr o ↦ r.active_writer k u c w o
    ];
    ended_writer = λ k c w i. r.ended_writer k c w (ended_before b k i);
  }

  -- no floor falls
  pub begin_floor : (b : ℕ) → floor P s b ≤ floor P (with_table s l (filled (table_of s.tables l) a.place a.number a.stamp)) b
  unfolding next
  begin_floor b =
      floor_from P (with_table s l (filled (table_of s.tables l) a.place a.number a.stamp)) b (floor P s b) (floor_is P s b).clock
      (λ c k r dom i. elim (J.only c k r i) [
        | inl e ↦
            let low = floor_dominates P lawful s b l (subst (λ m. P.order.dominates b m ≡ true) e.0 dom) in
            omega (arith, low, e.2, stamped.bound)
        | inr o ↦ floor_below P s b c k r dom o
      ])

  begin_advance : (b y : ℕ) → Advance P h s (began l a.number a.stamp ∷ h) (with_table s l (filled (table_of s.tables l) a.place a.number a.stamp)) b y
  unfolding next
  begin_advance b y = record {
    starts = λ c k r i. inr i;
    ends = λ c k i. inr i;
    stores = λ k c i w. w;
    writers = λ j r c live. inl (
      c,
      record {
        start = elim (cases_began b j r live.start) [ inl e ↦ absurd (wrote_nothing b j y c e.0 e.1 live.stores) | inr o ↦ o ];
        live = elim live.live [
          | inl i ↦ elim (J.only b j r i) [ inl e ↦ absurd (wrote_nothing b j y c e.0 e.1 live.stores) | inr o ↦ inl o ]
          | inr i ↦ inr (ended_before b j i)
        ];
        stores = live.stores;
      },
    );
    versions = λ w i. inl (same_numbers (row_of s.items y) w i);
    floors = begin_floor b;
  }

  pub inv_begin : Inv P v (began l a.number a.stamp ∷ h) (with_table s l (filled (table_of s.tables l) a.place a.number a.stamp))
  unfolding next
  inv_begin = record {
    frame = record {
      sound = I.frame.sound;
      clock = I.frame.clock;
      tables = J.count ∙ I.frame.tables;
      count = I.frame.count;
      levels = I.frame.levels;
      stamps = λ b. elim (cases_eq b l) [
        | inl e ↦ omega (arith, ap (λ c. (table_of next c).stamp) e, J.stamp, stamped.high)
        | inr ne ↦ omega (arith, ap (λ (y : Table). y.stamp) (J.others b ne), I.frame.stamps b)
      ];
    };
    times = begin_times;
    stores = stores_mild v h (began l a.number a.stamp) (λ b k x c e. cc) I.stores;
    rows = λ y lt. begin_row (level_of v.items y) y (row_of s.items y) (I.rows y lt);
    reads = reads_kept P lawful.order v h s I.times (began l a.number a.stamp ∷ h) (with_table s l (filled (table_of s.tables l) a.place a.number a.stamp))
        I.rows (λ y lt. begin_advance (level_of v.items y) y) h I.reads;
  }
