-- Every call keeps the invariant, a start has it, and so has every reached state. Assumes nothing.
use Rattle.std.proofs.Common.{◌≡◌, ℕ, zero, suc, ◌+◌, ◌<◌, Bool, true, false, cond, not, ◌&&◌, eqb, ltb, ◌⊎◌, List, [], ◌∷◌, length, get_or, replicate, is_some, Some, None, Ok, Err, Result, sym, refl, ap, ◌∙◌, subst, inl, inr, arith}
use Rattle.std.specs.List.{slice_get}
use Rattle.std.proofs.lemmas.Option.{none-some, slice_get_cases}
use Rattle.std.proofs.lemmas.Bool.{and_parts, eqb-true, false≢true}
use Rattle.orders.specs.Orders.{Order}
use Rattle.shelves.specs.Items.{Item, level_of, row_of, row_in}
use Rattle.shelves.specs.Rows.{is_committed, keeps_rule}
use Rattle.shelves.specs.declared.version.State.TheVariants.{Committed}
use Rattle.shelves.specs.declared.version.Version.{Version}
use Rattle.tables.specs.Tables.{empty_table}
use Rattle.tables.specs.declared.place.Held.{Held}
use Rattle.tables.specs.declared.place.Place.TheVariants.{Open}
use Rattle.tables.specs.declared.table.Table.{Table}
use Rattle.rules.specs.Members.{In}
use Rattle.rules.specs.Runs.{answer_by, step, run, log}
use Rattle.rules.specs.Serial.{newest_value, value_of}
use Rattle.rules.specs.Starts.{is_first, fits_order, unfit_from, Lawful, Start}
use Rattle.rules.specs.States.{Parts, State, with_clock, with_items, items_through, edits_of}
use Rattle.rules.specs.Steps.{settled, sender, next_clock, admission, admitted, reading, read_edits, read_done, writing, write_edits, write_done, commit_edit, abort_edit, ended as end_done}
use Rattle.rules.specs.declared.answer.Reply.TheVariants.{Begun, Value, Done}
use Rattle.rules.specs.declared.call.Call.{Call}
use Rattle.rules.specs.declared.call.Call.TheVariants.{Tick, Begin, Read, Write, Commit, Abort}
use Rattle.rules.specs.declared.decision.Admission.{Admission}
use Rattle.rules.specs.declared.decision.Reading.{Reading}
use Rattle.rules.specs.declared.decision.Writing.{Writing}
use Rattle.rules.specs.declared.refusal.Refusal.{Refusal}
use Rattle.rules.proofs.BeginStep.{inv_begin}
use Rattle.rules.proofs.EndStep.{inv_commit, inv_abort}
use Rattle.rules.proofs.History.{Event, idle, saw, stored, event_begin, event_read, event, events, onto}
use Rattle.rules.proofs.Inside.{in_nth}
use Rattle.rules.proofs.Invariant.{table_of, ActiveIn, RowKept, Inv}
use Rattle.rules.proofs.Inverted.{next_clock_ok, sender_ok, admission_ok, IsReading, reading_ok, OwnReading, LowerReading, IsWriting, writing_ok, OwnWriting, NewWriting}
use Rattle.rules.proofs.Ordered.{state_committed}
use Rattle.rules.proofs.ReadStep.{inv_idle, inv_lower, inv_own}
use Rattle.rules.proofs.Tabled.{never_open}
use Rattle.rules.proofs.WriteStep.{inv_over, inv_new}

module _ (P : Parts) (lawful : Lawful P) (v : State) (h : List Event) (s : State) (I : Inv P v h s) where
  unchanged : Inv P v (idle ∷ h) s
  unchanged = inv_idle P lawful.order v h s I s.clock (omega arith)

  tick_kept : (r : Result ℕ Refusal) → next_clock s ≡ r → Inv P v (idle ∷ h) (settled s (λ c. (c, with_clock s c)) r).1
  tick_kept (Err e) q = unchanged
  tick_kept (Ok c) q = inv_idle P lawful.order v h s I c (omega (arith, next_clock_ok s c q))

  begin_kept : (l d : ℕ) (r : Result Admission Refusal) → admission P s l d ≡ r
      → Inv P v (event_begin l (answer_by (λ p. Begun p.0 p.1) (settled s (admitted s l) r).0) ∷ h) (settled s (admitted s l) r).1
  begin_kept l d (Err e) q = unchanged
  begin_kept l d (Ok a) q = inv_begin P lawful v h s I l d a (admission_ok P s l d a q)

  read_way : (l n x : ℕ) (r : Reading) (q : IsReading P s l n x r) → OwnReading l n q.item r ⊎ LowerReading P s l q.held.stamp q.item r
      → Inv P v (saw l n x r.value ∷ h) (with_items s (items_through s.items (edits_of x (read_edits r))))
  read_way l n x r q (inl o) =
      subst (λ y. Inv P v (saw l n x r.value ∷ h) (with_items s (items_through s.items (edits_of x (read_edits y))))) (sym o.result)
      (inv_own P lawful.order v h s I l n x q.held q.from q.item q.found r o)
  read_way l n x r q (inr o) =
      subst (λ y. Inv P v (saw l n x r.value ∷ h) (with_items s (items_through s.items (edits_of x (read_edits y))))) (sym o.result)
      (inv_lower P lawful.order v h s I l n x q.held q.from q.item q.found q.dominates r o)

  read_kept : (l n x : ℕ) (r : Result Reading Refusal) → reading P s l n x ≡ r
      → Inv P v (event_read l n x (answer_by Value (settled s (read_done s x) r).0) ∷ h) (settled s (read_done s x) r).1
  read_kept l n x (Err e) q = unchanged
  read_kept l n x (Ok r) q = let f = reading_ok P s l n x r q in read_way l n x r f f.way

  write_way : (l n x b : ℕ) (w : Writing) (q : IsWriting P s l n x b w) → OwnWriting n b q.item w ⊎ NewWriting n q.held.stamp b q.item w
      → Inv P v (stored l n x b ∷ h) (with_items s (items_through s.items (edits_of x (write_edits w))))
  write_way l n x b w q (inl o) =
      subst (λ y. Inv P v (stored l n x b ∷ h) (with_items s (items_through s.items (edits_of x (write_edits y))))) (sym o.result)
      (inv_over P lawful.order v h s I l n x b q.held q.from q.item q.found q.level w o)
  write_way l n x b w q (inr o) = inv_new P lawful.order v h s I l n x b q.held q.from q.item q.found q.level w o

  pub write_kept : (l n x b : ℕ) (r : Result Writing Refusal) → writing P s l n x b ≡ r
      → Inv P v (event (Write l n x b) (answer_by (λ _. Done) (settled s (write_done s x) r).0) ∷ h) (settled s (write_done s x) r).1
  write_kept l n x b (Err e) q = unchanged
  write_kept l n x b (Ok w) q = let f = writing_ok P s l n x b w q in write_way l n x b w f f.way

  commit_kept : (l n : ℕ) (r : Result Held Refusal) → sender P s l n ≡ r
      → Inv P v (event (Commit l n) (answer_by (λ _. Done) (settled s (end_done commit_edit s l n) r).0) ∷ h) (settled s (end_done commit_edit s l n) r).1
  commit_kept l n (Err e) q = unchanged
  commit_kept l n (Ok hd) q = inv_commit P lawful.order v h s I l n hd (sender_ok P s l n hd q)

  abort_kept : (l n : ℕ) (r : Result Held Refusal) → sender P s l n ≡ r → Inv P v (idle ∷ h) (settled s (end_done abort_edit s l n) r).1
  abort_kept l n (Err e) q = unchanged
  abort_kept l n (Ok hd) q = inv_abort P lawful.order v h s I l n hd (sender_ok P s l n hd q)

  pub inv_step : (c : Call) → Inv P v (event c (step P s c).0 ∷ h) (step P s c).1
  inv_step Tick = tick_kept (next_clock s) refl
  inv_step (Begin l d) = begin_kept l d (admission P s l d) refl
  inv_step (Read l n x) = read_kept l n x (reading P s l n x) refl
  inv_step (Write l n x b) = write_kept l n x b (writing P s l n x b) refl
  inv_step (Commit l n) = commit_kept l n (sender P s l n) refl
  inv_step (Abort l n) = abort_kept l n (sender P s l n) refl

pub inv_run : (P : Parts) → Lawful P → (v : State) (cs : List Call) (h : List Event) (s : State) → Inv P v h s → Inv P v (onto (events (log P s cs)) h) (run P s cs).1
inv_run P lawful v [] h s I = I
inv_run P lawful v (c ∷ cs) h s I = inv_run P lawful v cs (event c (step P s c).0 ∷ h) (step P s c).1 (inv_step P lawful v h s I c)

-- a start
empty_everywhere : (m l : ℕ) → get_or (replicate m empty_table) l empty_table ≡ empty_table
empty_everywhere zero l = refl
empty_everywhere (suc m) zero = refl
empty_everywhere (suc m) (suc l) = empty_everywhere m l

fit_item : (o : Order) (x y : ℕ) (its : List Item) (it : Item) → unfit_from o x its ≡ None → slice_get its y ≡ Some it → fits_order o it ≡ true
fit_item o x y [] it e q = absurd (none-some it q)
fit_item o x y (j ∷ its) it e q = go (fits_order o j) refl y e q (λ z f g. fit_item o (x + 1) z its it f g)
  where
    go : (b : Bool) → fits_order o j ≡ b → (z : ℕ) → cond b (unfit_from o (x + 1) its) (Some x) ≡ None → slice_get (j ∷ its) z ≡ Some it
        → ((y : ℕ) → unfit_from o (x + 1) its ≡ None → slice_get its y ≡ Some it → fits_order o it ≡ true) → fits_order o it ≡ true
    go true f zero e q rest = let same : j ≡ it = cc in subst (λ k. fits_order o k ≡ true) same f
    go true f (suc z) e q rest = rest z e q
    go false f z e q rest = absurd (none-some x (sym e))

record FirstRow (v : State) (x : ℕ) (row : List Version) : Type 0 where
  rule : keeps_rule row ≡ true
  version : (w : Version) → In w row → (w.number ≡ 0) × (w.stamp ≡ 0) × (w.state ≡ Committed) × (w.value ≡ newest_value row)

first_row : (v : State) (x : ℕ) (row : List Version) → is_first row ≡ true → FirstRow v x row
first_row v x [] h = absurd (false≢true h)
first_row v x (w ∷ u ∷ ws) h = absurd (false≢true h)
first_row v x (w ∷ []) h =
    let p = and_parts (is_committed w.state) (eqb w.number 0 && (eqb w.stamp 0 && eqb w.mark 0)) h in
    let q = and_parts (eqb w.number 0) (eqb w.stamp 0 && eqb w.mark 0) p.1 in
    let r = and_parts (eqb w.stamp 0) (eqb w.mark 0) q.1 in
    record {
      rule = rw p.0 refl;
      version = λ u i. elim i [
        | inl e ↦ let k : w ≡ u = e in (
          ap (λ (y : Version). y.number) (sym k) ∙ eqb-true w.number 0 q.0,
          ap (λ (y : Version). y.stamp) (sym k) ∙ eqb-true w.stamp 0 r.0,
          ap (λ (y : Version). y.state) (sym k) ∙ state_committed w.state p.0,
          ap (λ (y : Version). y.value) (sym k) ∙ sym (newest_first (is_committed w.state) p.0),
        )
        | inr no_more ↦ absurd no_more
      ];
    }
  where
    newest_first : (b : Bool) → b ≡ true → value_of (cond b (Some (record { place = 0; version = w })) None) ≡ w.value
    newest_first true e = refl
    newest_first false e = absurd (false≢true e)

pub inv_start : (P : Parts) (v : State) → Start P v → Inv P v [] v
inv_start P v st =
    let tables : v.tables ≡ replicate 16 empty_table = ap (λ (y : State). y.tables) st.fresh in
    let table : (l : ℕ) → table_of v.tables l ≡ empty_table = λ l. ap (λ ts. table_of ts l) tables ∙ empty_everywhere 16 l in
    let clock : v.clock ≡ 1 = ap (λ (y : State). y.clock) st.fresh in
    let idle_tables : (l n t : ℕ) → ActiveIn v.tables l n t → ⊥ =
    λ l n t i. never_open 8 n t (subst (λ (y : Table). In (Open n t) y.places) (table l) i) in
    record {
      frame = record {
        sound = ap (λ (y : State). y.sound) st.fresh ∙ ap (λ o. not (is_some o)) st.fit;
        clock = omega (arith, clock);
        tables = ap length tables;
        count = refl;
        levels = λ x. refl;
        stamps = λ l. omega (arith, ap (λ (y : Table). y.stamp) (table l));
      };
      times = record {
        given = λ l n t i. absurd i;
        once = λ l n t r i j. absurd i;
        rising = λ l n t k r i j lt. absurd i;
        active = λ l n t i. absurd (idle_tables l n t i);
        distinct = λ l i j n s t e f. absurd (idle_tables l n s (in_nth (table_of v.tables l).places i (Open n s) e));
        over = λ l n t i j. i;
        ended_began = λ l n i. absurd i;
      };
      stores = record { began = λ l n x b i. absurd i; own = λ l n x b i. absurd i; known = λ l n x b i. absurd i };
      rows = λ x lt. first_kept x (nth_some x lt);
      reads = tt;
    }
  where
    nth_some : (x : ℕ) → x < length v.items → (it : Item) × (slice_get v.items x ≡ Some it)
    nth_some x lt = elim (slice_get_cases v.items x).1 [ inl f ↦ (f.0, f.2) | inr p ↦ absurd (omega (arith, lt, p.0)) ]

    first_kept : (x : ℕ) → (it : Item) × (slice_get v.items x ≡ Some it) → RowKept v [] v.tables (level_of v.items x) x (row_of v.items x)
    first_kept x f =
        let fits = and_parts (ltb f.0.level P.order.levels) (is_first f.0.row) (fit_item P.order 0 x v.items f.0 st.fit f.1) in
        let row : row_of v.items x ≡ f.0.row = ap row_in f.1 in
        let F : FirstRow v x (row_of v.items x) = first_row v x (row_of v.items x) (ap is_first row ∙ fits.1) in
        record {
          rule = F.rule;
          version = λ w i. let g = F.version w i in inl (record { number = g.0; stamp = g.1; state = g.2; value = g.3 });
          active_writer = λ n t b q i. absurd (none-some b q);
          ended_writer = λ n b q i. absurd i;
        }
