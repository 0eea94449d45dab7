-- Accepted commits and aborts keep the invariant. Assumes nothing.
use Rattle.std.proofs.Common.{◌≡◌, ℕ, ◌<◌, ◌⊎◌, List, ◌∷◌, length, set, Some, None, Option, sym, refl, ap, ◌∙◌, subst, inl, inr, arith, get_or-set_same}
use Rattle.std.specs.List.{slice_get}
use Rattle.std.proofs.lemmas.List.{length-set}
use Rattle.std.proofs.lemmas.Bool.{cases_eq, eq-eqb, both_ways}
use Rattle.orders.specs.Orders.{PartialOrder}
use Rattle.shelves.specs.Edits.{row_after}
use Rattle.shelves.specs.Items.{Item, level_of, row_of}
use Rattle.shelves.specs.declared.edit.Edit.{Edit}
use Rattle.shelves.specs.declared.edit.Edit.TheVariants.{Put, Remove}
use Rattle.shelves.specs.declared.version.Version.{Version}
use Rattle.tables.specs.Tables.{empty_table, freed}
use Rattle.tables.specs.declared.place.Held.{Held}
use Rattle.tables.specs.declared.place.Place.TheVariants.{Free, Open}
use Rattle.tables.specs.declared.table.Table.{Table}
use Rattle.rules.specs.Choices.{last_that, numbered, committed}
use Rattle.rules.specs.Members.{In}
use Rattle.rules.specs.States.{Parts, State, with_table, with_items, items_through}
use Rattle.rules.specs.Steps.{commit_edit, abort_edit, end_edits}
use Rattle.rules.specs.Watermarks.{floor}
use Rattle.rules.specs.declared.decision.Chosen.{Chosen}
use Rattle.rules.proofs.Advance.{Advance, reads_kept}
use Rattle.rules.proofs.History.{Event, idle, began, stored, ended, Began, Ended}
use Rattle.rules.proofs.Invariant.{table_of, ActiveIn, Times, Owned, Original, RowKept, Live, ReadsKept, Inv}
use Rattle.rules.proofs.Inverted.{IsSender}
use Rattle.rules.proofs.Marks.{floor_is, floor_from, floor_below}
use Rattle.rules.proofs.Mild.{idle_mild, ended_back, SameStores, stores_mild, SameNumbers, same_numbers}
use Rattle.rules.proofs.ReadStep.{sender_active, own_version}
use Rattle.rules.proofs.Rewritten.{replaced_kept}
use Rattle.rules.proofs.Rowed.{last_none, Replaced, put_row, Lacks, remove_row, end_row, levels_after, length_after, row_ended, row_not_ended}
use Rattle.rules.proofs.Tabled.{held_some, Distinct, Frees, frees, by_level}

-- transaction n of level l is active no more, and the others are
pub record Retired (ts next : List Table) (l n : ℕ) : Type 0 where
  pub gone : (t : ℕ) → ActiveIn next l n t → ⊥
  pub kept : (a k t : ℕ) → (a ≡ l → k ≡ n → ⊥) → ActiveIn ts a k t → ActiveIn next a k t
  pub only : (a k t : ℕ) → ActiveIn next a k t → ActiveIn ts a k t
  pub numbers : (a : ℕ) → (table_of next a).number ≡ (table_of ts a).number
  pub stamps : (a : ℕ) → (table_of next a).stamp ≡ (table_of ts a).stamp
  pub distinct : (a : ℕ) → Distinct (table_of next a).places
  pub count : length next ≡ length ts

pub retired : (ts : List Table) (l n i t : ℕ) → l < length ts → ((a : ℕ) → Distinct (table_of ts a).places) → slice_get (table_of ts l).places i ≡ Some (Open n t)
    → Retired ts (set ts l (freed (table_of ts l) i)) l n
retired ts l n i t lt d e =
    let next : List Table = set ts l (freed (table_of ts l) i) in
    let here : table_of next l ≡ freed (table_of ts l) i = get_or-set_same ts l (freed (table_of ts l) i) empty_table lt in
    let F : Frees (table_of ts l).places (set (table_of ts l).places i Free) n = frees (table_of ts l).places i n t (d l) e in
    record {
      gone = λ r j. F.gone r (subst (λ (y : Table). In (Open n r) y.places) here j);
      kept = λ a k r.
          by_level ts l (freed (table_of ts l) i) lt (λ b y. (b ≡ l → k ≡ n → ⊥) → ActiveIn ts b k r → In (Open k r) y.places)
          (λ ne j. F.kept k r (ne refl) j) (λ b ne _ j. j) a;
      only = λ a k r. by_level ts l (freed (table_of ts l) i) lt (λ b y. In (Open k r) y.places → ActiveIn ts b k r) (λ j. F.only k r j) (λ b ne j. j) a;
      numbers = by_level ts l (freed (table_of ts l) i) lt (λ b y. y.number ≡ (table_of ts b).number) refl (λ b ne. refl);
      stamps = by_level ts l (freed (table_of ts l) i) lt (λ b y. y.stamp ≡ (table_of ts b).stamp) refl (λ b ne. refl);
      distinct = by_level ts l (freed (table_of ts l) i) lt (λ b y. Distinct y.places) F.distinct (λ b ne. d b);
      count = length-set ts l (freed (table_of ts l) i);
    }

-- a version of another transaction is owned as before
owned_after : (v : State) (h : List Event) (ts next : List Table) (l n : ℕ) → Retired ts next l n → (e : Event) (a y : ℕ) → SameStores h e y
    → (z : Version) → (a ≡ l → z.number ≡ n → ⊥) → Original v y z ⊎ Owned h ts a y z → Original v y z ⊎ Owned (e ∷ h) next a y z
owned_after v h ts next l n R e a y same z ne (inl o) = inl o
owned_after v h ts next l n R e a y same z ne (inr o) = inr (record {
  start = inr o.start;
  value = same a z.number ∙ o.value;
  state = elim o.state [ inl p ↦ inl (p.0, R.kept a z.number z.stamp ne p.1) | inr c ↦ inr (c.0, inr c.1) ];
})

module _ (P : Parts) (lawful : PartialOrder P.order) (v : State) (h : List Event) (s : State) (I : Inv P v h s)
    (l n : ℕ) (hd : Held) (from : IsSender P s l n hd) (next : List Table) (R : Retired s.tables next l n)
    (e : Event) (no_begin : (a k t : ℕ) → e ≡ began a k t → ⊥) (no_store : (a k x b : ℕ) → e ≡ stored a k x b → ⊥)
    (same : (y : ℕ) → SameStores h e y) (ends : (a k : ℕ) → e ≡ ended a k → (a ≡ l) × (k ≡ n))
    (silent : (g : List Event) (w : State) → ReadsKept P v g w h → ReadsKept P v g w (e ∷ h)) where
  active : ActiveIn s.tables l n hd.stamp
  active = sender_active P s l n hd from

  not_over : Ended h l n → ⊥
  not_over i = I.times.over l n hd.stamp i active

  back : (a k t : ℕ) → Began (e ∷ h) a k t → Began h a k t
  back a k t (inl q) = absurd (no_begin a k t q)
  back a k t (inr i) = i

  end_times : Times P (e ∷ h) next
  end_times =
      let T = I.times in
      record {
        given = λ a k t i.
            let g = T.given a k t (back a k t i) in
            record {
              level = g.level;
              number_low = g.number_low;
              number = omega (arith, g.number, R.numbers a);
              stamp_low = g.stamp_low;
              stamp = omega (arith, g.stamp, R.stamps a);
            };
        once = λ a k t r i j. T.once a k t r (back a k t i) (back a k r j);
        rising = λ a k t m r i j. T.rising a k t m r (back a k t i) (back a m r j);
        active = λ a k t i. inr (T.active a k t (R.only a k t i));
        distinct = R.distinct;
        over = λ a k t i j. elim i [
          | inl q ↦
              let z = ends a k q in
              R.gone t (subst (λ c. ActiveIn next c n t) z.0 (subst (λ c. ActiveIn next a c t) z.1 j))
          | inr o ↦ T.over a k t o (R.only a k t j)
        ];
        ended_began = λ a k i. elim i [
          | inl q ↦
              let z = ends a k q in
              (hd.stamp, inr (subst (λ c. Began h c k hd.stamp) (sym z.0) (subst (λ c. Began h l c hd.stamp) (sym z.1) (T.active l n hd.stamp active))))
          | inr o ↦ let f = T.ended_began a k o in (f.0, inr f.1)
        ];
      }

  ended_old : (a k : ℕ) → (a ≡ l → k ≡ n → ⊥) → Ended (e ∷ h) a k → Ended h a k
  ended_old a k ne (inl q) = let z = ends a k q in absurd (ne z.0 z.1)
  ended_old a k ne (inr i) = i

  row_elsewhere : (a y : ℕ) (row : List Version) → (a ≡ l → ⊥) → RowKept v h s.tables a y row → RowKept v (e ∷ h) next a y row
  row_elsewhere a y row ne r = record {
    rule = r.rule;
    version = λ z i. owned_after v h s.tables next l n R e a y (same y) z (λ q _. ne q) (r.version z i);
    active_writer = λ k t b q i. r.active_writer k t b (sym (same y a k) ∙ q) (R.only a k t i);
    ended_writer = λ k b q i. r.ended_writer k b (sym (same y a k) ∙ q) (ended_old a k (λ z _. ne z) i);
  }

  module _ (its : List Item) (count : length its ≡ length s.items) (levels : (y : ℕ) → level_of its y ≡ level_of s.items y)
      (others : (y : ℕ) → (level_of v.items y ≡ l → ⊥) → row_of its y ≡ row_of s.items y)
      (rows : (y : ℕ) → y < length v.items → level_of v.items y ≡ l → RowKept v (e ∷ h) next l y (row_of its y))
      (numbers : (y : ℕ) → y < length v.items → level_of v.items y ≡ l → SameNumbers (row_of s.items y) (row_of its y)) where
    after : State
    after = record { sound = s.sound; clock = s.clock; tables = next; items = its }

    end_live : (a y j r c : ℕ) → Live (e ∷ h) next a y j r c → Live h s.tables a y j r c
    end_live a y j r c live =
        let start = back a j r live.start in
        record {
          start = start;
          live = elim live.live [
            | inl i ↦ inl (R.only a j r i)
            | inr i ↦ elim i [
              | inl q ↦
                  let z = ends a j q in
                  let t : hd.stamp ≡ r = I.times.once l n hd.stamp r (I.times.active l n hd.stamp active)
                  (subst (λ b. Began h b n r) z.0 (subst (λ b. Began h a b r) z.1 start)) in
                  inl (subst (λ b. ActiveIn s.tables b j r) (sym z.0) (subst (λ b. ActiveIn s.tables l b r) (sym z.1) (subst (λ b. ActiveIn s.tables l n b) t active)))
              | inr o ↦ inr o
            ]
          ];
          stores = sym (same y a j) ∙ live.stores;
        }

    end_advance : (y : ℕ) → y < length v.items → Advance P h s (e ∷ h) after (level_of v.items y) y
    unfolding after
    end_advance y lt = record {
      starts = λ a k t i. inr i;
      ends = λ a k i. inr i;
      stores = λ k b i q. same y (level_of v.items y) k ∙ q;
      writers = λ j r c live. inl (c, end_live (level_of v.items y) y j r c live);
      versions = λ w i. inl (elim (cases_eq (level_of v.items y) l) [
        | inl z ↦ numbers y lt z w i
        | inr ne ↦ same_numbers (row_of s.items y) w (subst (λ row. In w row) (others y ne) i)
      ]);
      floors = floor_from P after (level_of v.items y) (floor P s (level_of v.items y)) (floor_is P s (level_of v.items y)).clock
          (λ a k t d i. floor_below P s (level_of v.items y) a k t d (R.only a k t i));
    }

    pub inv_end : Inv P v (e ∷ h) (record { sound = s.sound; clock = s.clock; tables = next; items = its })
    unfolding after
    inv_end = record {
      frame = record {
        sound = I.frame.sound;
        clock = I.frame.clock;
        tables = R.count ∙ I.frame.tables;
        count = count ∙ I.frame.count;
        levels = λ y. levels y ∙ I.frame.levels y;
        stamps = λ a. omega (arith, R.stamps a, I.frame.stamps a);
      };
      times = end_times;
      stores = stores_mild v h e no_store I.stores;
      rows = λ y lt. elim (cases_eq (level_of v.items y) l) [
        | inl z ↦ subst (λ a. RowKept v (e ∷ h) next a y (row_of its y)) (sym z) (rows y lt z)
        | inr ne ↦ rw (others y ne) (row_elsewhere (level_of v.items y) y (row_of s.items y) ne (I.rows y lt))
      ];
      reads = silent (e ∷ h) after (reads_kept P lawful v h s I.times (e ∷ h) after I.rows end_advance h I.reads);
    }

-- no version of transaction n stands in the row
no_version : (row : List Version) (n : ℕ) → last_that (numbered n) row ≡ None → (z : Version) → In z row → z.number ≡ n → ⊥
no_version row n e z i q = both_ways (numbered n z) (last_none (numbered n) row e z i) (eq-eqb z.number n q)

module _ (P : Parts) (lawful : PartialOrder P.order) (v : State) (h : List Event) (s : State) (I : Inv P v h s)
    (l n : ℕ) (hd : Held) (from : IsSender P s l n hd) where
  next : List Table
  next = set s.tables l (freed (table_of s.tables l) hd.place)

  retires : Retired s.tables next l n
  unfolding next
  retires =
      retired s.tables l n hd.place hd.stamp (omega (arith, from.level, lawful.few_levels, I.frame.tables)) I.times.distinct
      (held_some n (table_of s.tables l).places hd from.holds)

  act : ActiveIn s.tables l n hd.stamp
  act = sender_active P s l n hd from

  kept_row : (y : ℕ) → y < length v.items → level_of v.items y ≡ l → RowKept v h s.tables l y (row_of s.items y)
  kept_row y lt e = subst (λ a. RowKept v h s.tables a y (row_of s.items y)) e (I.rows y lt)

  end_items : (Chosen → Edit) → List Item
  end_items f = items_through s.items (end_edits f l n 0 s.items)

  end_row_is : (f : Chosen → Edit) (y : ℕ) → y < length v.items → level_of v.items y ≡ l
      → row_of (end_items f) y ≡ end_row f (row_of s.items y) (last_that (numbered n) (row_of s.items y))
  unfolding end_items
  end_row_is f y lt e = row_ended f l n s.items y (omega (arith, I.frame.count)) (I.frame.levels y ∙ e)

  end_other : (f : Chosen → Edit) (y : ℕ) → (level_of v.items y ≡ l → ⊥) → row_of (end_items f) y ≡ row_of s.items y
  unfolding end_items
  end_other f y ne = row_not_ended f l n s.items y (λ e. ne (sym (I.frame.levels y) ∙ e))

  -- commit
  commit_row : (y : ℕ) (row : List Version) → RowKept v h s.tables l y row → (o : Option Chosen) → last_that (numbered n) row ≡ o
      → RowKept v (ended l n ∷ h) next l y (end_row commit_edit row o) × SameNumbers row (end_row commit_edit row o)
  commit_row y row kept None e = (
    record {
      rule = kept.rule;
      version = λ z i. owned_after v h s.tables next l n retires (ended l n) l y (λ _ _. refl) z (λ _ q. no_version row n e z i q) (kept.version z i);
      active_writer = λ k t b q i. kept.active_writer k t b q (retires.only l k t i);
      ended_writer = λ k b q i. elim i [
        | inl w ↦ let ek : n ≡ k = cc in inl (kept.active_writer k hd.stamp b q (subst (λ z. ActiveIn s.tables l z hd.stamp) ek act))
        | inr o ↦ kept.ended_writer k b q o
      ];
    },
    same_numbers row,
  )
  commit_row y row kept (Some c) e =
      let O = own_version P v h s I l n hd.stamp y act row kept c e in
      let changed : Replaced row (row_after (Put c.place (committed c.version)) row) c.version (committed c.version) =
      put_row row c.place c.version (committed c.version) kept.rule O.there refl refl (inr refl) in (
        replaced_kept v (ended l n ∷ h) next l y row _ c.version (committed c.version) O.stands refl changed
            (inr (record { start = inr O.owner.start; value = O.owner.value; state = inr (refl, inl (ap (ended l) (sym O.number))) }))
            (λ z i ne. owned_after v h s.tables next l n retires (ended l n) l y (λ _ _. refl) z (λ _ q. ne (q ∙ sym O.number)) (kept.version z i))
            (record {
              active = λ k t b q i. kept.active_writer k t b q (retires.only l k t i);
              done = λ k b q i. elim i [
                | inl w ↦ let ek : n ≡ k = cc in inl (c.version, O.stands, O.number ∙ ek)
                | inr o ↦ kept.ended_writer k b q o
              ];
            }),
        λ z i. elim (changed.only z i) [
          | inl q ↦ (c.version, O.stands, ap (λ (w : Version). w.number) (sym q), omega (arith, ap (λ (w : Version). w.mark) q))
          | inr old ↦ (z, old.0, refl, omega arith)
        ],
      )

  pub inv_commit : Inv P v (ended l n ∷ h)
      (with_items (with_table s l (freed (table_of s.tables l) hd.place)) (items_through s.items (end_edits commit_edit l n 0 s.items)))
  unfolding next end_items
  inv_commit =
      inv_end P lawful v h s I l n hd from next retires (ended l n)
      (λ a k t q. cc) (λ a k x b q. cc)
      (λ y a k. refl) (λ a k q. let el : l ≡ a = cc in let en : n ≡ k = cc in (sym el, sym en)) (λ g w r. r)
      (end_items commit_edit) (length_after s.items (end_edits commit_edit l n 0 s.items)) (levels_after s.items (end_edits commit_edit l n 0 s.items))
      (end_other commit_edit)
      (λ y lt e. rw (end_row_is commit_edit y lt e) (commit_row y (row_of s.items y) (kept_row y lt e) (last_that (numbered n) (row_of s.items y)) refl).0)
      (λ y lt e. rw (end_row_is commit_edit y lt e) (commit_row y (row_of s.items y) (kept_row y lt e) (last_that (numbered n) (row_of s.items y)) refl).1)

  -- abort
  abort_row : (y : ℕ) (row : List Version) → RowKept v h s.tables l y row → (o : Option Chosen) → last_that (numbered n) row ≡ o
      → RowKept v (idle ∷ h) next l y (end_row abort_edit row o) × SameNumbers row (end_row abort_edit row o)
  abort_row y row kept None e = (
    record {
      rule = kept.rule;
      version = λ z i. owned_after v h s.tables next l n retires idle l y (λ _ _. refl) z (λ _ q. no_version row n e z i q) (kept.version z i);
      active_writer = λ k t b q i. kept.active_writer k t b q (retires.only l k t i);
      ended_writer = λ k b q i. kept.ended_writer k b q (ended_back idle h idle_mild l k i);
    },
    same_numbers row,
  )
  abort_row y row kept (Some c) e =
      let O = own_version P v h s I l n hd.stamp y act row kept c e in
      let lacks : Lacks row (row_after (Remove c.place) row) c.version = remove_row row c.place c.version kept.rule O.there O.state in
      let stays : (k : ℕ) → (k ≡ n → ⊥) → (z : Version) × In z row × (z.number ≡ k) → (z : Version) × In z (row_after (Remove c.place) row) × (z.number ≡ k) =
      λ k ne f. (f.0, lacks.kept f.0 f.1 (λ q. ne (sym f.2 ∙ q ∙ O.number)), f.2) in (
        record {
          rule = lacks.rule;
          version = λ z i. let old = lacks.only z i in
              owned_after v h s.tables next l n retires idle l y (λ _ _. refl) z (λ _ q. old.1 (q ∙ sym O.number)) (kept.version z old.0);
          active_writer = λ k t b q i.
              stays k (λ z. retires.gone t (subst (λ m. ActiveIn next l m t) z i)) (kept.active_writer k t b q (retires.only l k t i));
          ended_writer = λ k b q i.
              let done = ended_back idle h idle_mild l k i in
              elim (kept.ended_writer k b q done) [
                | inl f ↦ inl (stays k (λ z. I.times.over l n hd.stamp (subst (λ m. Ended h l m) z done) act) f)
                | inr f ↦ inr (λ z j. f z (lacks.only z j).0)
              ];
        },
        λ z i. (z, (lacks.only z i).0, refl, omega arith),
      )

  pub inv_abort : Inv P v (idle ∷ h)
      (with_items (with_table s l (freed (table_of s.tables l) hd.place)) (items_through s.items (end_edits abort_edit l n 0 s.items)))
  unfolding next end_items
  inv_abort =
      inv_end P lawful v h s I l n hd from next retires idle
      idle_mild.no_begin (λ a k x b q. cc)
      (λ y a k. refl) (λ a k q. absurd (idle_mild.no_end a k q)) (λ g w r. r)
      (end_items abort_edit) (length_after s.items (end_edits abort_edit l n 0 s.items)) (levels_after s.items (end_edits abort_edit l n 0 s.items))
      (end_other abort_edit)
      (λ y lt e. rw (end_row_is abort_edit y lt e) (abort_row y (row_of s.items y) (kept_row y lt e) (last_that (numbered n) (row_of s.items y)) refl).0)
      (λ y lt e. rw (end_row_is abort_edit y lt e) (abort_row y (row_of s.items y) (kept_row y lt e) (last_that (numbered n) (row_of s.items y)) refl).1)
