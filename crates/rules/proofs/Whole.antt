-- Every run has a right history, so the law of serial runs holds of it; and a running order exists. Assumes nothing.
use Rattle.std.proofs.Common.{◌≡◌, ℕ, ◌≤◌, Bool, true, false, cond, ◌⊎◌, List, [], ◌∷◌, ◌++◌, map, length, Some, None, Ok, Err, Option, Result, sym, refl, ap, ◌∙◌, subst, ap₂, inl, inr, arith}
use mathlib.Core.Path.{fun_ext}
use Rattle.std.proofs.lemmas.Bool.{both_ways}
use Rattle.shelves.specs.Items.{level_of, row_of}
use Rattle.shelves.specs.Rows.{is_committed}
use Rattle.shelves.specs.declared.version.State.{State as Standing}
use Rattle.shelves.specs.declared.version.State.TheVariants.{Committed}
use Rattle.tables.specs.declared.place.Held.{Held}
use Rattle.tables.specs.declared.place.Place.TheVariants.{Open}
use Rattle.rules.specs.Answers.{Answer}
use Rattle.rules.specs.Choices.{last_that}
use Rattle.rules.specs.Members.{In}
use Rattle.rules.specs.Runs.{answer_by, step, run, log}
use Rattle.rules.specs.Serial.{fed_call, feeds, Transaction, is_named, committed_ones, RunningOrder, Values, serial_reads, serial_values, answer_to, answered, value_of, newest, SerialRunGivesAnsweredValues, RunningOrderExists}
use Rattle.rules.specs.States.{Parts, State}
use Rattle.rules.specs.Steps.{settled, sender, admission, admitted, reading, read_done, writing, write_done, commit_edit, ended as end_done}
use Rattle.rules.specs.Watermarks.{strictly_dominates}
use Rattle.rules.specs.declared.answer.Reply.TheVariants.{Begun, Value, Done}
use Rattle.rules.specs.declared.call.Call.{Call}
use Rattle.rules.specs.declared.call.Call.TheVariants.{Tick, Begin, Read, Write, Commit, Abort}
use Rattle.rules.specs.declared.decision.Admission.{Admission}
use Rattle.rules.specs.declared.decision.Chosen.{Chosen}
use Rattle.rules.specs.declared.decision.Reading.{Reading}
use Rattle.rules.specs.declared.decision.Writing.{Writing}
use Rattle.rules.specs.declared.refusal.Refusal.{Refusal}
use Rattle.rules.proofs.History.{Event, idle, began, saw, stored, ended, event, events, told, seen_by, onto, Began, Writer, Outside, ReadsRight, EndRight, HistoryRight}
use Rattle.rules.proofs.Inside.{in_nth}
use Rattle.rules.proofs.Invariant.{table_of, RowKept, OutsideKept, ReadsKept, Inv}
use Rattle.rules.proofs.Ordered.{state_committed}
use Rattle.rules.proofs.Orderly.{order_exists}
use Rattle.rules.proofs.ReadStep.{pending_committed}
use Rattle.rules.proofs.Rowed.{IsLast, last_some, last_none, ruled, last_largest}
use Rattle.rules.proofs.Serially.{committed, serial_run_right}
use Rattle.rules.proofs.StepKept.{inv_start, inv_run}

committed_test : (st : Standing) → st ≡ Committed → is_committed st ≡ true
committed_test st e = rw e refl

module _ (P : Parts) (v : State) (h : List Event) (s : State) (I : Inv P v h s) where
  outside_right : (a l n t x b : ℕ) → OutsideKept P v h s a l n t x b → Outside h (newest v.items) a l n t x b
  outside_right a l n t x b q = record {
    k = q.k;
    source = q.source;
    quiet = λ j r c w prec. q.quiet j r c (record { start = w.start; live = inr w.finish; stores = w.stores }) prec;
  }

  reads_right : (g : List Event) → ReadsKept P v h s g → ReadsRight (level_of v.items) (newest v.items) h g
  reads_right [] r = tt
  reads_right (idle ∷ g) r = reads_right g r
  reads_right (began l n t ∷ g) r = reads_right g r
  reads_right (saw l n x b ∷ g) r = (
    elim r.0.right [
      | inl own ↦ inl own
      | inr out ↦ inr (
        out.0,
        λ t i.
            subst (λ u. Outside h (newest v.items) (level_of v.items x) l n u x b) (I.times.once l n r.0.stamp t r.0.start i)
            (outside_right (level_of v.items x) l n r.0.stamp x b out.1),
      )
    ],
    reads_right g r.1,
  )
  reads_right (stored l n x b ∷ g) r = reads_right g r
  reads_right (ended l n ∷ g) r = reads_right g r

  saw_lower : (g : List Event) → ReadsKept P v h s g → (l n x b : ℕ) → In (saw l n x b) g
      → (level_of v.items x ≡ l) ⊎ (strictly_dominates P.order l (level_of v.items x) ≡ true)
  saw_lower [] r l n x b i = absurd i
  saw_lower (idle ∷ g) r l n x b (inl e) = absurd cc
  saw_lower (idle ∷ g) r l n x b (inr i) = saw_lower g r l n x b i
  saw_lower (began a k t ∷ g) r l n x b (inl e) = absurd cc
  saw_lower (began a k t ∷ g) r l n x b (inr i) = saw_lower g r l n x b i
  saw_lower (saw a k y c ∷ g) r l n x b (inl e) =
      let ea : a ≡ l = cc in
      let ey : y ≡ x = cc in
      subst (λ m. (level_of v.items x ≡ m) ⊎ (strictly_dominates P.order m (level_of v.items x) ≡ true)) ea
      (subst (λ m. (level_of v.items m ≡ a) ⊎ (strictly_dominates P.order a (level_of v.items m) ≡ true)) ey r.0.lower)
  saw_lower (saw a k y c ∷ g) r l n x b (inr i) = saw_lower g r.1 l n x b i
  saw_lower (stored a k y c ∷ g) r l n x b (inl e) = absurd cc
  saw_lower (stored a k y c ∷ g) r l n x b (inr i) = saw_lower g r l n x b i
  saw_lower (ended a k ∷ g) r l n x b (inl e) = absurd cc
  saw_lower (ended a k ∷ g) r l n x b (inr i) = saw_lower g r l n x b i

  module _ (x : ℕ) (kept : RowKept v h s.tables (level_of v.items x) x (row_of s.items x)) where
    -- the newest committed version is at least as new as every committed writer
    writers_below : (c : Chosen) → IsLast (λ w. is_committed w.state) (row_of s.items x) c
        → (j r b : ℕ) → Writer h (level_of v.items x) x j r b → j ≤ c.version.number
    writers_below c last j r b w =
        elim (kept.ended_writer j b w.stores w.finish) [
          | inl f ↦
              let state : f.0.state ≡ Committed = elim (kept.version f.0 f.1) [
                | inl o ↦ o.state
                | inr o ↦ elim o.state [
                  | inl p ↦ absurd (I.times.over (level_of v.items x) j f.0.stamp w.finish
                      (subst (λ m. In (Open m f.0.stamp) (table_of s.tables (level_of v.items x)).places) f.2 p.1))
                  | inr d ↦ d.0
                ]
              ] in
              let le = last_largest (λ w. is_committed w.state) (row_of s.items x) c kept.rule last f.0 f.1 (committed_test f.0.state state) in
              omega (arith, le, f.2)
          | inr f ↦
              let far = f c.version (in_nth (row_of s.items x) c.place c.version last.there) in
              omega (arith, far)
        ]

    end_value : (o : Option Chosen) → last_that (λ w. is_committed w.state) (row_of s.items x) ≡ o
        → EndRight (level_of v.items) (newest v.items) h x (value_of o)
    end_value None e =
        let one = (ruled (row_of s.items x) kept.rule).one_committed in
        absurd (both_ways (is_committed one.0.state) (last_none (λ w. is_committed w.state) (row_of s.items x) e one.0 one.1) (committed_test one.0.state one.2))
    end_value (Some c) e =
        let last = last_some (λ w. is_committed w.state) (row_of s.items x) c e in
        let stands = in_nth (row_of s.items x) c.place c.version last.there in
        let state = state_committed c.version.state last.passes in
        elim (kept.version c.version stands) [
          | inl o ↦ inl (
            λ j r b w.
                let le = writers_below c last j r b w in
                let low = I.times.given (level_of v.items x) j r w.start in
                omega (arith, le, low.number_low, o.number),
            o.value,
          )
          | inr o ↦ elim o.state [
            | inl p ↦ absurd (pending_committed p.0 state)
            | inr d ↦ inr (c.version.number, c.version.stamp, record { start = o.start; finish = d.1; stores = o.value }, writers_below c last)
          ]
        ]

  pub history_right : HistoryRight P.order (level_of v.items) (newest v.items) (newest s.items) (length v.items) h
  history_right = record {
    once = I.times.once;
    positive = λ l n t i. (I.times.given l n t i).number_low;
    own_items = I.stores.own;
    lower_items = λ l n x b i. saw_lower h I.reads l n x b i;
    seen = reads_right h I.reads;
    ends = λ x lt. end_value x (I.rows x lt) (last_that (λ w. is_committed w.state) (row_of s.items x)) refl;
  }

-- what running one by one is told of a call of a run, and the values seen in it, are those of its event
record Tells (c : Call) (r : Answer) : Type 0 where
  fed : fed_call c r ≡ told (event c r)
  seen : (u : Transaction) (es : List Event) → answer_to u c r ++ seen_by u es ≡ seen_by u (event c r ∷ es)

-- a test between nothing and nothing
either_nothing : (b : Bool) (es : List ℕ) → cond b [] [] ++ es ≡ es
either_nothing true es = refl
either_nothing false es = refl

module _ (P : Parts) (s : State) where
  begin_tells : (l d : ℕ) (r : Result Admission Refusal) → Tells (Begin l d) (answer_by (λ p. Begun p.0 p.1) (settled s (admitted s l) r).0)
  begin_tells l d (Ok a) = record { fed = refl; seen = λ u es. refl }
  begin_tells l d (Err e) = record { fed = refl; seen = λ u es. refl }

  read_tells : (l n x : ℕ) (r : Result Reading Refusal) → Tells (Read l n x) (answer_by Value (settled s (read_done s x) r).0)
  read_tells l n x (Ok a) = record { fed = refl; seen = λ u es. refl }
  read_tells l n x (Err e) = record { fed = refl; seen = λ u es. either_nothing (is_named u l n) (seen_by u es) }

  write_tells : (l n x b : ℕ) (r : Result Writing Refusal) → Tells (Write l n x b) (answer_by (λ _. Done) (settled s (write_done s x) r).0)
  write_tells l n x b (Ok a) = record { fed = refl; seen = λ u es. refl }
  write_tells l n x b (Err e) = record { fed = refl; seen = λ u es. refl }

  commit_tells : (l n : ℕ) (r : Result Held Refusal) → Tells (Commit l n) (answer_by (λ _. Done) (settled s (end_done commit_edit s l n) r).0)
  commit_tells l n (Ok a) = record { fed = refl; seen = λ u es. refl }
  commit_tells l n (Err e) = record { fed = refl; seen = λ u es. refl }

  step_tells : (c : Call) → Tells c (step P s c).0
  step_tells Tick = record { fed = refl; seen = λ u es. refl }
  step_tells (Begin l d) = begin_tells l d (admission P s l d)
  step_tells (Read l n x) = read_tells l n x (reading P s l n x)
  step_tells (Write l n x b) = write_tells l n x b (writing P s l n x b)
  step_tells (Commit l n) = commit_tells l n (sender P s l n)
  step_tells (Abort l n) = record { fed = refl; seen = λ u es. refl }

pub feeds_told : (P : Parts) (cs : List Call) (s : State) → feeds (log P s cs) ≡ map told (events (log P s cs))
feeds_told P [] s = refl
feeds_told P (c ∷ cs) s = ap₂ ◌∷◌ (step_tells P s c).fed (feeds_told P cs (step P s c).1)

pub answered_seen : (P : Parts) (u : Transaction) (cs : List Call) (s : State) → answered (log P s cs) u ≡ seen_by u (events (log P s cs))
answered_seen P u [] s = refl
answered_seen P u (c ∷ cs) s =
    ap (λ es. answer_to u c (step P s c).0 ++ es) (answered_seen P u cs (step P s c).1)
    ∙ (step_tells P s c).seen u (events (log P (step P s c).1 cs))

pub serial_run_gives_answered_values : SerialRunGivesAnsweredValues
serial_run_gives_answered_values P v cs st us ro =
    let es : List Event = events (log P v cs) in
    let first : Values ℕ = newest v.items in
    let I : Inv P v (onto es []) (run P v cs).1 = inv_run P st.lawful v cs [] v (inv_start P v st) in
    let fed : feeds (log P v cs) ≡ map told es = feeds_told P cs v in
    let right = serial_run_right P.order (level_of v.items) first (newest (run P v cs).1.items) (length v.items) es
    (history_right P v (onto es []) (run P v cs).1 I) us (subst (λ fs. RunningOrder P.order (committed_ones fs) us) fed ro) in (
      ap (λ fs. serial_reads fs us first) fed ∙ right.0 ∙ ap (λ f. map f us) (fun_ext (λ u. sym (answered_seen P u cs v))),
      λ x lt. ap (λ fs. serial_values fs us first x) fed ∙ right.1 x lt,
    )

same_transaction : (u w : Transaction) → u.level ≡ w.level → u.number ≡ w.number → u.stamp ≡ w.stamp → u ≡ w
same_transaction u w p q r = λ i. record { level = p i; number = q i; stamp = r i }

pub running_order_exists : RunningOrderExists
running_order_exists P v cs st =
    let es : List Event = events (log P v cs) in
    let I : Inv P v (onto es []) (run P v cs).1 = inv_run P st.lawful v cs [] v (inv_start P v st) in
    let fed : feeds (log P v cs) ≡ map told es = feeds_told P cs v in
    let found = order_exists P.order st.lawful.order (committed_ones (map told es))
    (λ u w i j e lt. I.times.rising u.level u.number u.stamp w.number w.stamp (committed es u i).start
    (subst (λ l. Began (onto es []) l w.number w.stamp) (sym e) (committed es w j).start) lt)
    (λ u w i j e f. same_transaction u w e f (I.times.once u.level u.number u.stamp w.stamp (committed es u i).start
    (subst (λ l. Began (onto es []) l u.number w.stamp) (sym e) (subst (λ n. Began (onto es []) w.level n w.stamp) (sym f) (committed es w j).start)))) in
    (found.0, subst (λ fs. RunningOrder P.order (committed_ones fs) found.0) (sym fed) found.1)
