-- Calls that change nothing, ticks and reads keep the invariant. Assumes nothing.
use Rattle.std.proofs.Common.{◌≡◌, ℕ, ◌<◌, ◌≤◌, true, false, not, eqb, ◌⊎◌, List, [], ◌∷◌, length, Some, None, Option, sym, refl, ap, ◌∙◌, subst, ap₂, inl, inr, arith}
use Rattle.std.specs.List.{slice_get}
use Rattle.std.proofs.lemmas.Option.{none-some, slice_get_within}
use Rattle.std.proofs.lemmas.Bool.{cases_eq, ne_eqb, and_from, not_from_false, both_ways, leb-true, le-leb, ltb-true, lt-ltb, and_cases, not-false, eqb-true}
use Rattle.orders.specs.Orders.{PartialOrder}
use Rattle.shelves.specs.Items.{Item, level_in, row_in, level_of, row_of, items_after}
use Rattle.shelves.specs.Rows.{is_committed}
use Rattle.shelves.specs.declared.edit.Edit.TheVariants.{Put}
use Rattle.shelves.specs.declared.version.State.{State as Standing}
use Rattle.shelves.specs.declared.version.State.TheVariants.{Committed, Pending}
use Rattle.shelves.specs.declared.version.Version.{Version}
use Rattle.tables.specs.declared.place.Held.{Held}
use Rattle.tables.specs.declared.table.Table.{Table}
use Rattle.rules.specs.Choices.{last_that, numbered, up_to, older_than, is_pending, marked}
use Rattle.rules.specs.Members.{In}
use Rattle.rules.specs.Serial.{newest}
use Rattle.rules.specs.States.{Parts, State, ItemEdit, edits_of, items_through}
use Rattle.rules.specs.Watermarks.{floor}
use Rattle.rules.specs.declared.decision.Chosen.{Chosen}
use Rattle.rules.specs.declared.decision.Reading.{Reading}
use Rattle.rules.proofs.Advance.{reads_kept}
use Rattle.rules.proofs.History.{Event, idle, saw, last_stored, Ended, stored_in, Precedes, Writer}
use Rattle.rules.proofs.Inside.{in_nth}
use Rattle.rules.proofs.Invariant.{table_of, ActiveIn, Frame, Owned, Original, RowKept, Live, OutsideKept, Inv}
use Rattle.rules.proofs.Inverted.{IsSender, OwnReading, LowerReading}
use Rattle.rules.proofs.Marks.{floor_below}
use Rattle.rules.proofs.Mild.{Mild, idle_mild, saw_mild, began_back, ended_back, SameStores, times_mild, stores_mild, row_mild, moved, SameNumbers, advance_mild, same_numbers}
use Rattle.rules.proofs.Rewritten.{replaced_kept, row_writers}
use Rattle.rules.proofs.Rowed.{IsLast, last_some, last_largest, Replaced, put_row, levels_after, length_after, row_edited, row_other}
use Rattle.rules.proofs.Tabled.{held_some}

pub committed_standing : (st : Standing) → not (is_committed st) ≡ false → st ≡ Committed
committed_standing Committed h = refl
committed_standing Pending h = absurd (both_ways true h refl)

pub pending_committed : {st : Standing} → st ≡ Pending → st ≡ Committed → ⊥
pending_committed p c = cc

-- a version of an item that is found
pub record AnItem (v s : State) (x : ℕ) (it : Item) : Type 0 where
  pub known : x < length v.items
  pub within : x < length s.items
  pub level : level_of v.items x ≡ it.level
  pub row : row_of s.items x ≡ it.row

pub an_item : (v s : State) (x : ℕ) (it : Item) → Frame v s → slice_get s.items x ≡ Some it → AnItem v s x it
an_item v s x it f e =
    let lt = slice_get_within s.items x it e in
    record { known = omega (arith, f.count); within = lt; level = sym (f.levels x) ∙ ap level_in e; row = ap row_in e }

pub sender_active : (P : Parts) (s : State) (l n : ℕ) (hd : Held) → IsSender P s l n hd → ActiveIn s.tables l n hd.stamp
sender_active P s l n hd q = in_nth (table_of s.tables l).places hd.place _ (held_some n (table_of s.tables l).places hd q.holds)

-- edits keep the number of items and their levels
pub frame_edited : (v s : State) (es : List ItemEdit) → Frame v s → Frame v (moved s s.clock (items_through s.items es))
frame_edited v s es f = record {
  sound = f.sound;
  clock = f.clock;
  tables = f.tables;
  count = length_after s.items es ∙ f.count;
  levels = λ y. levels_after s.items es y ∙ f.levels y;
  stamps = f.stamps;
}

-- the version of transaction n in a row of its level, while it is active
pub record Own (v : State) (h : List Event) (ts : List Table) (l n y : ℕ) (row : List Version) (c : Chosen) : Type 0 where
  pub there : slice_get row c.place ≡ Some c.version
  pub stands : In c.version row
  pub number : c.version.number ≡ n
  pub owner : Owned h ts l y c.version
  pub state : c.version.state ≡ Pending

pub own_version : (P : Parts) (v : State) (h : List Event) (s : State) → Inv P v h s → (l n t y : ℕ) → ActiveIn s.tables l n t
    → (row : List Version) → RowKept v h s.tables l y row → (c : Chosen) → last_that (numbered n) row ≡ Some c → Own v h s.tables l n y row c
own_version P v h s I l n t y active row kept c e =
    let last : IsLast (numbered n) row c = last_some (numbered n) row c e in
    let stands : In c.version row = in_nth row c.place c.version last.there in
    let number : c.version.number ≡ n = eqb-true c.version.number n last.passes in
    let given = I.times.given l n t (I.times.active l n t active) in
    let owner : Owned h s.tables l y c.version = elim (kept.version c.version stands) [
      | inl o ↦ absurd (omega (arith, o.number, number, given.number_low))
      | inr o ↦ o
    ] in
    record {
      there = last.there;
      stands = stands;
      number = number;
      owner = owner;
      state = elim owner.state [ inl p ↦ p.0 | inr d ↦ absurd (I.times.over l n t (subst (λ z. Ended h l z) number d.1) active) ];
    }

module _ (P : Parts) (lawful : PartialOrder P.order) (v : State) (h : List Event) (s : State) (I : Inv P v h s) where
  pub inv_idle : (c : ℕ) → s.clock ≤ c → Inv P v (idle ∷ h) (moved s c s.items)
  inv_idle c le = record {
    frame = record {
      sound = I.frame.sound;
      clock = omega (arith, I.frame.clock);
      tables = I.frame.tables;
      count = I.frame.count;
      levels = I.frame.levels;
      stamps = λ l. omega (arith, I.frame.stamps l);
    };
    times = times_mild P h s.tables idle idle_mild I.times;
    stores = stores_mild v h idle (λ l n x b q. cc) I.stores;
    rows = λ x lt. row_mild v h s.tables (level_of v.items x) x (row_of s.items x) idle idle_mild (λ a n. refl) (I.rows x lt);
    reads = reads_kept P lawful v h s I.times (idle ∷ h) (moved s c s.items) I.rows
        (λ x lt. advance_mild P h s (level_of v.items x) x idle idle_mild (λ a n. refl) c s.items le (same_numbers (row_of s.items x))) h I.reads;
  }

  -- the version that an outside reader saw is committed
  outside_source : (a l n t x : ℕ) (w : Version) → Original v x w ⊎ Owned h s.tables a x w → w.state ≡ Committed → ((r : ℕ) → Precedes l n t a w.number w.stamp)
      → ((w.number ≡ 0) × (w.value ≡ newest v.items x)) ⊎ ((r : ℕ) × Writer h a x w.number r w.value × Precedes l n t a w.number r)
  outside_source a l n t x w (inl o) c prec = inl (o.number, o.value)
  outside_source a l n t x w (inr o) c prec =
      elim o.state [
        | inl p ↦ absurd (pending_committed p.0 c)
        | inr e ↦ inr (w.stamp, record { start = o.start; finish = e.1; stores = o.value }, prec 0)
      ]

  -- after an event that stores nothing, a writer is what it was
  live_back : (e : Event) → Mild e → (a x j r d : ℕ) → SameStores h e x → Live (e ∷ h) s.tables a x j r d → Live h s.tables a x j r d
  live_back e m a x j r d same q = record {
    start = began_back e h m a j r q.start;
    live = elim q.live [ inl i ↦ inl i | inr i ↦ inr (ended_back e h m a j i) ];
    stores = sym (same a j) ∙ q.stores;
  }

  writer_later : (e : Event) (a x k r b : ℕ) → SameStores h e x → Writer h a x k r b → Writer (e ∷ h) a x k r b
  writer_later e a x k r b same w = record { start = inr w.start; finish = inr w.finish; stores = same a k ∙ w.stores }

  source_later : (e : Event) (a l n t x k b c : ℕ) → SameStores h e x → c ≡ b
      → ((k ≡ 0) × (b ≡ newest v.items x)) ⊎ ((r : ℕ) × Writer h a x k r b × Precedes l n t a k r)
      → ((k ≡ 0) × (c ≡ newest v.items x)) ⊎ ((r : ℕ) × Writer (e ∷ h) a x k r c × Precedes l n t a k r)
  source_later e a l n t x k b c same q (inl z) = inl (z.0, q ∙ z.1)
  source_later e a l n t x k b c same q (inr w) =
      inr (w.0, subst (λ d. Writer (e ∷ h) a x k w.0 d) (sym q) (writer_later e a x k w.0 b same w.1), w.2)

  module _ (l n x : ℕ) (hd : Held) (from : IsSender P s l n hd) (it : Item) (found : slice_get s.items x ≡ Some it) where
    a : ℕ
    a = level_of v.items x

    row : List Version
    row = row_of s.items x

    -- a read of a lower item
    module _ (dom : P.order.dominates l it.level ≡ true) (r : Reading) (q : LowerReading P s l hd.stamp it r) where
      lower_outside : OutsideKept P v (saw l n x r.value ∷ h) s (level_of v.items x) l n hd.stamp x r.value
      unfolding a row
      lower_outside =
          let here : AnItem v s x it = an_item v s x it I.frame found in
          let e : Event = saw l n x r.value in
          let w : Version = q.chosen.version in
          let kept : RowKept v h s.tables a x row = I.rows x here.known in
          let last : IsLast (older_than hd.stamp) row q.chosen = last_some (older_than hd.stamp) row q.chosen (rw here.row q.last) in
          let stands : In w row = in_nth row q.chosen.place w last.there in
          let other : a ≡ l → ⊥ = λ z. q.level (sym here.level ∙ z) in
          let low : hd.stamp ≤ floor P s a = rw here.level q.floor in
          let value : r.value ≡ w.value = ap (λ (y : Reading). y.value) q.result in
          let older : w.stamp < hd.stamp = ltb-true w.stamp hd.stamp last.passes in
          let src = source_later e a l n hd.stamp x w.number w.value r.value (λ _ _. refl) value
          (outside_source a l n hd.stamp x w (kept.version w stands) (committed_standing w.state q.owned)
          (λ _. record { own = λ z. absurd (other z); lower = λ _. older })) in
          record {
            k = w.number;
            source = src;
            quiet = λ j t d live prec. lower_quiet kept last low other j t d (live_back e (saw_mild l n x r.value) a x j t d (λ _ _. refl) live) prec;
            guard = λ z. absurd (other z);
            wall = λ _. low;
          }
        where
          by_version : RowKept v h s.tables a x row → IsLast (older_than hd.stamp) row q.chosen → (j t d : ℕ) → Live h s.tables a x j t d → t < hd.stamp
              → (w : Version) → In w row → w.number ≡ j → Original v x w ⊎ Owned h s.tables a x w → j ≤ q.chosen.version.number
          by_version kept last j t d live lt w i e (inl o) = omega (arith, o.number, e)
          by_version kept last j t d live lt w i e (inr o) =
              let same : w.stamp ≡ t = I.times.once a w.number w.stamp t o.start (rw e live.start) in
              let le = last_largest (older_than hd.stamp) row q.chosen kept.rule last w i (lt-ltb w.stamp hd.stamp (omega (arith, same, lt))) in
              omega (arith, le, e)

          lower_quiet : RowKept v h s.tables a x row → IsLast (older_than hd.stamp) row q.chosen → hd.stamp ≤ floor P s a → (a ≡ l → ⊥)
              → (j t d : ℕ) → Live h s.tables a x j t d → Precedes l n hd.stamp a j t → j ≤ q.chosen.version.number
          lower_quiet kept last low other j t d live prec =
              let lt : t < hd.stamp = prec.lower other in
              elim live.live [
                | inl active ↦
                    let given = I.times.given a j t live.start in
                    absurd (omega (arith, floor_below P s a a j t (lawful.reflexive a given.level) active, low, lt))
                | inr done ↦ elim (kept.ended_writer j d live.stores done) [
                  | inl f ↦ by_version kept last j t d live lt f.0 f.1 f.2 (kept.version f.0 f.1)
                  | inr f ↦ let far = f q.chosen.version (in_nth row q.chosen.place q.chosen.version last.there) in omega (arith, far)
                ]
              ]

      pub inv_lower : Inv P v (saw l n x r.value ∷ h) s
      inv_lower =
          let here : AnItem v s x it = an_item v s x it I.frame found in
          let e : Event = saw l n x r.value in
          let m : Mild e = saw_mild l n x r.value in
          record {
            frame = I.frame;
            times = times_mild P h s.tables e m I.times;
            stores = stores_mild v h e (λ _ _ _ _ q. cc) I.stores;
            rows = λ y lt. row_mild v h s.tables (level_of v.items y) y (row_of s.items y) e m (λ _ _. refl) (I.rows y lt);
            reads = (
              record {
                known = here.known;
                stamp = hd.stamp;
                start = inr (I.times.active l n hd.stamp (sender_active P s l n hd from));
                lower = inr (and_from (P.order.dominates l (level_of v.items x)) (not (eqb l (level_of v.items x)))
                    (rw here.level dom) (not_from_false (eqb l (level_of v.items x)) (ne_eqb l (level_of v.items x) (λ z. q.level (sym here.level ∙ sym z)))));
                right = inr (lower_never here (last_stored h l n x) refl, lower_outside);
              },
              reads_kept P lawful v h s I.times (e ∷ h) s I.rows
                  (λ y lt. advance_mild P h s (level_of v.items y) y e m (λ _ _. refl) s.clock s.items (omega arith) (same_numbers (row_of s.items y))) h I.reads,
            );
          }
        where
          lower_never : AnItem v s x it → (o : Option ℕ) → last_stored h l n x ≡ o → last_stored h l n x ≡ None
          lower_never here None e = e
          lower_never here (Some b) e =
              absurd (q.level (sym here.level ∙ I.stores.own l n x b (stored_in h l n x b e)))

    -- a read of an item of its own level
    module _ (r : Reading) (q : OwnReading l n it r) where
      after : List Item
      after = items_after s.items x (Put q.chosen.place (marked n q.chosen.version))

      pub record OwnFacts : Type 0 where
        pub here : AnItem v s x it
        pub kept : RowKept v h s.tables (level_of v.items x) x (row_of s.items x)
        pub level : level_of v.items x ≡ l
        pub last : IsLast (up_to n) (row_of s.items x) q.chosen
        pub stands : In q.chosen.version (row_of s.items x)
        pub value : r.value ≡ q.chosen.version.value
        pub below : q.chosen.version.number ≤ n
        pub active : ActiveIn s.tables l n hd.stamp
        pub positive : 1 ≤ n
        pub changed : Replaced (row_of s.items x) (row_of (items_after s.items x (Put q.chosen.place (marked n q.chosen.version))) x) q.chosen.version (marked n q.chosen.version)

      pub own_facts : OwnFacts
      own_facts =
          let here : AnItem v s x it = an_item v s x it I.frame found in
          let kept : RowKept v h s.tables (level_of v.items x) x (row_of s.items x) = I.rows x here.known in
          let last : IsLast (up_to n) (row_of s.items x) q.chosen = last_some (up_to n) (row_of s.items x) q.chosen (rw here.row q.last) in
          let active : ActiveIn s.tables l n hd.stamp = sender_active P s l n hd from in
          let ver : Version = q.chosen.version in
          let row_is = row_edited s.items x (Put q.chosen.place (marked n ver)) here.within in
          record {
            here = here;
            kept = kept;
            level = here.level ∙ q.level;
            last = last;
            stands = in_nth (row_of s.items x) q.chosen.place ver last.there;
            value = ap (λ (y : Reading). y.value) q.result;
            below = leb-true ver.number n last.passes;
            active = active;
            positive = (I.times.given l n hd.stamp (I.times.active l n hd.stamp active)).number_low;
            changed = rw row_is (put_row (row_of s.items x) q.chosen.place ver (marked n ver) kept.rule last.there refl refl (inl refl));
          }

      own_numbers : SameNumbers (row_of s.items x) (row_of after x)
      unfolding after
      own_numbers z i =
          elim (own_facts.changed.only z i) [
            | inl e ↦ (q.chosen.version, own_facts.stands, ap (λ (y : Version). y.number) (sym e), omega (arith, ap (λ (y : Version). y.mark) e))
            | inr old ↦ (z, old.0, refl, omega arith)
          ]

      -- version n is chosen exactly where n has written x
      chosen_own : (b : ℕ) → last_stored h l n x ≡ Some b → last_stored h l n x ≡ Some r.value
      chosen_own b e =
          let F = own_facts in
          let g = F.kept.active_writer n hd.stamp b (rw F.level e) (rw F.level F.active) in
          let le = last_largest (up_to n) (row_of s.items x) q.chosen F.kept.rule F.last g.0 g.1 (le-leb g.0.number n (omega (arith, g.2))) in
          let same : q.chosen.version.number ≡ n = omega (arith, le, g.2, F.below) in
          elim (F.kept.version q.chosen.version F.stands) [
            | inl o ↦ absurd (omega (arith, o.number, same, F.positive))
            | inr o ↦ ap₂ (λ c k. last_stored h c k x) (sym F.level) (sym same) ∙ o.value ∙ ap Some (sym F.value)
          ]

      chosen_other : last_stored h l n x ≡ None → (q.chosen.version.number < n) × (q.chosen.version.state ≡ Committed)
      chosen_other e =
          let F = own_facts in
          let ver : Version = q.chosen.version in
          let apart : ver.number ≡ n → ⊥ = λ same. elim (F.kept.version ver F.stands) [
            | inl o ↦ omega (arith, o.number, same, F.positive)
            | inr o ↦ none-some ver.value (sym e ∙ ap₂ (λ c k. last_stored h c k x) (sym F.level) (sym same) ∙ o.value)
          ] in (
            omega (arith, F.below, apart),
            committed_standing ver.state (elim (and_cases (is_pending ver) (not (eqb ver.number n)) q.owned) [
              | inl p ↦ p
              | inr p ↦ absurd (apart (eqb-true ver.number n (not-false (eqb ver.number n) p)))
            ]),
          )

      own_quiet : (j t d : ℕ) → Live h s.tables (level_of v.items x) x j t d → j < n → j ≤ q.chosen.version.number
      own_quiet j t d live lt =
          let F = own_facts in
          let by_version : (z : Version) → In z (row_of s.items x) → z.number ≡ j → j ≤ q.chosen.version.number =
          λ z i e. omega (arith, e, last_largest (up_to n) (row_of s.items x) q.chosen F.kept.rule F.last z i (le-leb z.number n (omega (arith, e, lt)))) in
          elim live.live [
            | inl active ↦ let g = F.kept.active_writer j t d live.stores active in by_version g.0 g.1 g.2
            | inr done ↦ elim (F.kept.ended_writer j d live.stores done) [
              | inl g ↦ by_version g.0 g.1 g.2
              | inr g ↦ let far = g q.chosen.version F.stands in omega (arith, far)
            ]
          ]

      own_outside : last_stored h l n x ≡ None
          → OutsideKept P v (saw l n x r.value ∷ h) (moved s s.clock after) (level_of v.items x) l n hd.stamp x r.value
      unfolding after
      own_outside e =
          let F = own_facts in
          let c = chosen_other e in
          let ver : Version = q.chosen.version in
          let a : ℕ = level_of v.items x in
          let ev : Event = saw l n x r.value in
          record {
            k = ver.number;
            source = source_later ev a l n hd.stamp x ver.number ver.value r.value (λ _ _. refl) F.value
                (outside_source a l n hd.stamp x ver (F.kept.version ver F.stands) c.1
                (λ _. record { own = λ _. c.0; lower = λ ne. absurd (ne F.level) }));
            quiet = λ j t d live prec. own_quiet j t d (live_back ev (saw_mild l n x r.value) a x j t d (λ _ _. refl) live) (prec.own F.level);
            guard = λ _. record {
              between = λ z i lt. elim (F.changed.only z i) [
                | inl m ↦ omega (arith, ap (λ (y : Version). y.number) m)
                | inr old ↦ last_largest (up_to n) (row_of s.items x) q.chosen F.kept.rule F.last z old.0 (le-leb z.number n (omega (arith, lt)))
              ];
              mark = λ z i same. elim (F.changed.only z i) [
                | inl m ↦ omega (arith, ap (λ (y : Version). y.mark) m)
                | inr old ↦ absurd (old.1 same)
              ];
            };
            wall = λ ne. absurd (ne F.level);
          }

      own_row : (y : ℕ) → y < length v.items → RowKept v (saw l n x r.value ∷ h) s.tables (level_of v.items y) y (row_of after y)
      unfolding after
      own_row y lt =
          let F = own_facts in
          let ver : Version = q.chosen.version in
          let ev : Event = saw l n x r.value in
          let m : Mild ev = saw_mild l n x r.value in
          let marked_version : Original v x ver ⊎ Owned h s.tables (level_of v.items x) x ver
          → Original v x (marked n ver) ⊎ Owned h s.tables (level_of v.items x) x (marked n ver) =
          λ k. elim k [
            | inl o ↦ inl (record { number = o.number; stamp = o.stamp; state = o.state; value = o.value })
            | inr o ↦ inr (record { start = o.start; value = o.value; state = o.state })
          ] in
          elim (cases_eq y x) [
            | inl e ↦ rw e (row_mild v h s.tables (level_of v.items x) x (row_of after x) ev m (λ _ _. refl)
                (replaced_kept v h s.tables (level_of v.items x) x (row_of s.items x) (row_of after x) ver (marked n ver) F.stands refl F.changed
                (marked_version (F.kept.version ver F.stands)) (λ z i _. F.kept.version z i)
                (row_writers v h s.tables (level_of v.items x) x (row_of s.items x) F.kept)))
            | inr ne ↦ rw (row_other s.items x y (Put q.chosen.place (marked n ver)) ne)
                (row_mild v h s.tables (level_of v.items y) y (row_of s.items y) ev m (λ _ _. refl) (I.rows y lt))
          ]

      own_numbers_all : (y : ℕ) → SameNumbers (row_of s.items y) (row_of after y)
      unfolding after
      own_numbers_all y =
          elim (cases_eq y x) [
            | inl e ↦ rw e own_numbers
            | inr ne ↦ rw (row_other s.items x y (Put q.chosen.place (marked n q.chosen.version)) ne) (same_numbers (row_of s.items y))
          ]

      pub inv_own : Inv P v (saw l n x r.value ∷ h) (moved s s.clock (items_after s.items x (Put q.chosen.place (marked n q.chosen.version))))
      unfolding after
      inv_own =
          let F = own_facts in
          let ev : Event = saw l n x r.value in
          let m : Mild ev = saw_mild l n x r.value in
          record {
            frame = frame_edited v s (edits_of x (Put q.chosen.place (marked n q.chosen.version) ∷ [])) I.frame;
            times = times_mild P h s.tables ev m I.times;
            stores = stores_mild v h ev (λ _ _ _ _ z. cc) I.stores;
            rows = own_row;
            reads = (
              record {
                known = F.here.known;
                stamp = hd.stamp;
                start = inr (I.times.active l n hd.stamp F.active);
                lower = inl F.level;
                right = own_right (last_stored h l n x) refl;
              },
              reads_kept P lawful v h s I.times (ev ∷ h) (moved s s.clock after) I.rows
                  (λ y lt. advance_mild P h s (level_of v.items y) y ev m (λ _ _. refl) s.clock after (omega arith) (own_numbers_all y)) h I.reads,
            );
          }
        where
          own_right : (o : Option ℕ) → last_stored h l n x ≡ o
              → (last_stored h l n x ≡ Some r.value)
              ⊎ ((last_stored h l n x ≡ None) × OutsideKept P v (saw l n x r.value ∷ h) (moved s s.clock after) (level_of v.items x) l n hd.stamp x r.value)
          own_right (Some b) e = inl (chosen_own b e)
          own_right None e = inr (e, own_outside e)
