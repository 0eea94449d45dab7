-- What the invariant says of every reached state. Assumes nothing.
use Rattle.std.proofs.Common.{◌≡◌, ℕ, zero, suc, ◌<◌, ◌≤◌, Bool, true, false, cond, ◌&&◌, eqb, ◌⊎◌, List, [], ◌∷◌, length, set, Some, Ok, Err, Result, sym, refl, ap, ◌∙◌, subst, inl, inr, arith, get_or-set_other, get_or-set_same}
use Rattle.std.specs.List.{AllByRecursion, slice_get}
use Rattle.std.proofs.lemmas.Option.{none-some, same_Some}
use Rattle.std.proofs.lemmas.Bool.{cases_eq, cond_both}
use Rattle.shelves.specs.Items.{Item, level_of, row_of}
use Rattle.shelves.specs.Rows.{keeps_rule}
use Rattle.shelves.specs.declared.version.State.TheVariants.{Pending}
use Rattle.shelves.specs.declared.version.Version.{Version}
use Rattle.tables.specs.Tables.{empty_table, filled, freed}
use Rattle.tables.specs.declared.place.Held.{Held}
use Rattle.tables.specs.declared.table.Table.{Table}
use Rattle.rules.specs.Answers.{Answer}
use Rattle.rules.specs.Members.{In}
use Rattle.rules.specs.Reached.{QuestionHasRoom, StampsNeverFall, StampsWithinClock, NumbersRise, FloorNeverFalls, RowsKeepRule, WrittenVersionStands, PendingHasOwner, ActiveWriteStands}
use Rattle.rules.specs.Runs.{Sent, accepted, answer_by, step, run, log}
use Rattle.rules.specs.Serial.{Fed, skipped, begun, got, wrote, commits, fed_begin, fed_call, feeds, Transaction, transactions}
use Rattle.rules.specs.Starts.{Lawful, Start}
use Rattle.rules.specs.States.{Parts, State, table_at, with_clock, with_table, with_items, items_through}
use Rattle.rules.specs.Steps.{settled, sender, next_clock, admission, admitted, reading, read_done, writing, write_done, commit_edit, abort_edit, end_edits, ended as end_done}
use Rattle.rules.specs.Watermarks.{floor}
use Rattle.rules.specs.declared.answer.Reply.TheVariants.{Clock, Begun, Value, Done}
use Rattle.rules.specs.declared.call.Call.{Call}
use Rattle.rules.specs.declared.call.Call.TheVariants.{Tick, Begin, Read, Write, Commit, Abort}
use Rattle.rules.specs.declared.decision.Admission.{Admission}
use Rattle.rules.specs.declared.decision.Reading.{Reading}
use Rattle.rules.specs.declared.decision.Writing.{Writing}
use Rattle.rules.specs.declared.refusal.Refusal.{Refusal}
use Rattle.rules.proofs.BeginStep.{lowest_room, begin_floor}
use Rattle.rules.proofs.EndStep.{Retired, retired}
use Rattle.rules.proofs.History.{Event, idle, began, saw, stored, ended, event, events, onto, last_stored, Began, Ended, in_onto}
use Rattle.rules.proofs.Inside.{in_nth}
use Rattle.rules.proofs.Invariant.{table_of, ActiveIn, RowKept, Inv}
use Rattle.rules.proofs.Inverted.{IsSender, sender_ok, IsAdmission, admission_ok, writing_ok, next_clock_ok}
use Rattle.rules.proofs.Marks.{floor_is, floor_from, floor_below}
use Rattle.rules.proofs.Mild.{moved, floor_moved}
use Rattle.rules.proofs.ReadStep.{AnItem, an_item, pending_committed, sender_active}
use Rattle.rules.proofs.StepKept.{inv_start, inv_step, inv_run, write_kept}
use Rattle.rules.proofs.Tabled.{held_some}
use Rattle.rules.proofs.WriteStep.{stored_here}

-- the history of a run
abbrev pub history : Parts → State → List Call → List Event
history P v cs = onto (events (log P v cs)) []

pub reached : (P : Parts) (v : State) (cs : List Call) → Start P v → Inv P v (history P v cs) (run P v cs).1
reached P v cs st = inv_run P st.lawful v cs [] v (inv_start P v st)

pub question_has_room : QuestionHasRoom
question_has_room P v cs st l = lowest_room P (history P v cs) v (run P v cs).1 (reached P v cs st) l

-- what is told of a call that begins or writes, and its event
no_begun : (b : Bool) (f : Fed ℕ) (l n t : ℕ) → (f ≡ begun l n t → ⊥) → cond b f skipped ≡ begun l n t → ⊥
no_begun true f l n t ne e = ne e
no_begun false f l n t ne e = cc

fed_begun : (a : ℕ) (r : Answer) (l n t : ℕ) → fed_begin a r ≡ begun l n t → (a ≡ l) × (r ≡ Ok (Begun n t))
fed_begun a (Ok (Clock c)) l n t e = absurd cc
fed_begun a (Ok (Begun k u)) l n t e = (cc, cc)
fed_begun a (Ok (Value x)) l n t e = absurd cc
fed_begun a (Ok Done) l n t e = absurd cc
fed_begun a (Err q) l n t e = absurd cc

-- only a begin begins
begin_only : (c : Call) (r : Answer) (l n t : ℕ) → fed_call c r ≡ begun l n t → (d : ℕ) × (c ≡ Begin l d) × (r ≡ Ok (Begun n t))
begin_only Tick r l n t e = absurd cc
begin_only (Begin a d) r l n t e = let f = fed_begun a r l n t e in (d, ap (λ b. Begin b d) f.0, f.1)
begin_only (Read a k x) r l n t e = absurd (no_begun (accepted r) (got a k x) l n t (λ q. cc) e)
begin_only (Write a k x b) r l n t e = absurd (no_begun (accepted r) (wrote a k x b) l n t (λ q. cc) e)
begin_only (Commit a k) r l n t e = absurd (no_begun (accepted r) (commits a k) l n t (λ q. cc) e)
begin_only (Abort a k) r l n t e = absurd cc

fed_began : (c : Call) (r : Answer) (l n t : ℕ) → fed_call c r ≡ begun l n t → event c r ≡ began l n t
fed_began c r l n t e =
    let f = begin_only c r l n t e in
    ap (λ k. event k r) f.1 ∙ ap (event (Begin l f.0)) f.2

no_wrote : (b : Bool) (f : Fed ℕ) (l n x a : ℕ) → (f ≡ wrote l n x a → ⊥) → cond b f skipped ≡ wrote l n x a → ⊥
no_wrote true f l n x a ne e = ne e
no_wrote false f l n x a ne e = cc

begin_writes_not : (b : ℕ) (r : Answer) (l n x a : ℕ) → fed_begin b r ≡ wrote l n x a → ⊥
begin_writes_not b (Ok (Clock c)) l n x a e = cc
begin_writes_not b (Ok (Begun k u)) l n x a e = cc
begin_writes_not b (Ok (Value y)) l n x a e = cc
begin_writes_not b (Ok Done) l n x a e = cc
begin_writes_not b (Err q) l n x a e = cc

write_stores : (t : Bool) (k m y b l n x a : ℕ) → cond t (wrote k m y b) skipped ≡ wrote l n x a → cond t (stored k m y b) idle ≡ stored l n x a
write_stores true k m y b l n x a e = cc
write_stores false k m y b l n x a e = absurd cc

fed_stored : (c : Call) (r : Answer) (l n x a : ℕ) → fed_call c r ≡ wrote l n x a → event c r ≡ stored l n x a
fed_stored Tick r l n x a e = absurd cc
fed_stored (Begin b d) r l n x a e = absurd (begin_writes_not b r l n x a e)
fed_stored (Read b k y) r l n x a e = absurd (no_wrote (accepted r) (got b k y) l n x a (λ q. cc) e)
fed_stored (Write k m y b) r l n x a e = write_stores (accepted r) k m y b l n x a e
fed_stored (Commit b k) r l n x a e = absurd (no_wrote (accepted r) (commits b k) l n x a (λ q. cc) e)
fed_stored (Abort b k) r l n x a e = absurd cc

-- a transaction that began: the first that is told, or one of the others
told_first : (f : Fed ℕ) (fs : List (Fed ℕ)) (u : Transaction) → In u (transactions (f ∷ fs)) → (f ≡ begun u.level u.number u.stamp) ⊎ In u (transactions fs)
told_first skipped fs u i = inr i
told_first (begun l n t) fs u (inl e) =
    inl (λ j. begun (e j).level (e j).number (e j).stamp)
told_first (begun l n t) fs u (inr i) = inr i
told_first (got l n x) fs u i = inr i
told_first (wrote l n x b) fs u i = inr i
told_first (commits l n) fs u i = inr i

begun_event : (sent : List Sent) (u : Transaction) → In u (transactions (feeds sent)) → In (began u.level u.number u.stamp) (events sent)
begun_event [] u i = i
begun_event (s ∷ sent) u i =
    elim (told_first (fed_call s.call s.answer) (feeds sent) u i) [
      | inl e ↦ inl (fed_began s.call s.answer u.level u.number u.stamp e)
      | inr j ↦ inr (begun_event sent u j)
    ]

wrote_event : (sent : List Sent) (l n x a : ℕ) → In (wrote l n x a) (feeds sent) → In (stored l n x a) (events sent)
wrote_event [] l n x a i = i
wrote_event (s ∷ sent) l n x a (inl e) = inl (fed_stored s.call s.answer l n x a e)
wrote_event (s ∷ sent) l n x a (inr i) = inr (wrote_event sent l n x a i)

-- a transaction of the log began in the history
pub in_history : (P : Parts) (v : State) (cs : List Call) (u : Transaction) → In u (transactions (feeds (log P v cs))) → Began (history P v cs) u.level u.number u.stamp
in_history P v cs u i = in_onto (began u.level u.number u.stamp) (events (log P v cs)) [] (begun_event (log P v cs) u i)

pub stamps_never_fall : StampsNeverFall
stamps_never_fall P v cs st u w i j e lt =
    (reached P v cs st).times.rising u.level u.number u.stamp w.number w.stamp (in_history P v cs u i)
    (subst (λ l. Began (history P v cs) l w.number w.stamp) (sym e) (in_history P v cs w j)) lt

pub stamps_within_clock : StampsWithinClock
stamps_within_clock P v cs st u i =
    let I = reached P v cs st in
    let g = I.times.given u.level u.number u.stamp (in_history P v cs u i) in
    (g.stamp_low, omega (arith, g.stamp, I.frame.stamps u.level))

-- what a call makes of floors and of the numbers given
pub record Onward (P : Parts) (s next : State) : Type 0 where
  pub floors : (l : ℕ) → floor P s l ≤ floor P next l
  pub numbers : (l : ℕ) → (table_at s l).number ≤ (table_at next l).number

module _ (P : Parts) (lawful : Lawful P) (v : State) (h : List Event) (s : State) (I : Inv P v h s) where
  moved_on : (c : ℕ) (its : List Item) → s.clock ≤ c → Onward P s (moved s c its)
  moved_on c its le = record { floors = λ l. floor_moved P s c its l le; numbers = λ l. omega arith }

  begin_on : (l d : ℕ) (a : Admission) → IsAdmission P s l d a → Onward P s (with_table s l (filled (table_at s l) a.place a.number a.stamp))
  begin_on l d a q =
      let T : Table = filled (table_at s l) a.place a.number a.stamp in
      let within : l < length s.tables = omega (arith, q.level, lawful.order.few_levels, I.frame.tables) in
      record {
        floors = begin_floor P lawful v h s I l d a q;
        numbers = λ b. elim (cases_eq b l) [
          | inl e ↦
              let new : (table_of (set s.tables l T) b).number ≡ a.number =
              ap (λ c. (table_of (set s.tables l T) c).number) e ∙ ap (λ (y : Table). y.number) (get_or-set_same s.tables l T empty_table within) in
              let old : (table_of s.tables b).number ≡ (table_of s.tables l).number = ap (λ c. (table_of s.tables c).number) e in
              omega (arith, new, old, q.number)
          | inr ne ↦ omega (arith, ap (λ (y : Table). y.number) (get_or-set_other s.tables l b T empty_table ne))
        ];
      }

  end_on : (l n : ℕ) (hd : Held) → IsSender P s l n hd → (its : List Item) → Onward P s (with_items (with_table s l (freed (table_at s l) hd.place)) its)
  end_on l n hd q its =
      let next : List Table = set s.tables l (freed (table_of s.tables l) hd.place) in
      let R : Retired s.tables next l n =
      retired s.tables l n hd.place hd.stamp (omega (arith, q.level, lawful.order.few_levels, I.frame.tables)) I.times.distinct
      (held_some n (table_of s.tables l).places hd q.holds) in
      let after : State = with_items (with_table s l (freed (table_at s l) hd.place)) its in
      record {
        floors = λ b. floor_from P after b (floor P s b) (floor_is P s b).clock (λ a k t d i. floor_below P s b a k t d (R.only a k t i));
        numbers = λ b. omega (arith, R.numbers b);
      }

  stays : Onward P s s
  stays = moved_on s.clock s.items (omega arith)

  tick_on : (r : Result ℕ Refusal) → next_clock s ≡ r → Onward P s (settled s (λ c. (c, with_clock s c)) r).1
  tick_on (Err e) q = stays
  tick_on (Ok c) q = moved_on c s.items (omega (arith, next_clock_ok s c q))

  begins_on : (l d : ℕ) (r : Result Admission Refusal) → admission P s l d ≡ r → Onward P s (settled s (admitted s l) r).1
  begins_on l d (Err e) q = stays
  begins_on l d (Ok a) q = begin_on l d a (admission_ok P s l d a q)

  read_on : (x : ℕ) (r : Result Reading Refusal) → Onward P s (settled s (read_done s x) r).1
  read_on x (Err e) = stays
  read_on x (Ok r) = moved_on s.clock (read_done s x r).1.items (omega arith)

  write_on : (x : ℕ) (r : Result Writing Refusal) → Onward P s (settled s (write_done s x) r).1
  write_on x (Err e) = stays
  write_on x (Ok w) = moved_on s.clock (write_done s x w).1.items (omega arith)

  commit_on : (l n : ℕ) (r : Result Held Refusal) → sender P s l n ≡ r → Onward P s (settled s (end_done commit_edit s l n) r).1
  commit_on l n (Err e) q = stays
  commit_on l n (Ok hd) q = end_on l n hd (sender_ok P s l n hd q) (items_through s.items (end_edits commit_edit l n 0 s.items))

  abort_on : (l n : ℕ) (r : Result Held Refusal) → sender P s l n ≡ r → Onward P s (settled s (end_done abort_edit s l n) r).1
  abort_on l n (Err e) q = stays
  abort_on l n (Ok hd) q = end_on l n hd (sender_ok P s l n hd q) (items_through s.items (end_edits abort_edit l n 0 s.items))

  pub step_on : (c : Call) → Onward P s (step P s c).1
  step_on Tick = tick_on (next_clock s) refl
  step_on (Begin l d) = begins_on l d (admission P s l d) refl
  step_on (Read l n x) = read_on x (reading P s l n x)
  step_on (Write l n x b) = write_on x (writing P s l n x b)
  step_on (Commit l n) = commit_on l n (sender P s l n) refl
  step_on (Abort l n) = abort_on l n (sender P s l n) refl

  -- a number that is given is above all that were given
  number_above : (l d n t : ℕ) (r : Result Admission Refusal) → admission P s l d ≡ r
      → answer_by (λ p. Begun p.0 p.1) (settled s (admitted s l) r).0 ≡ Ok (Begun n t) → (table_at s l).number < n
  number_above l d n t (Err e) q b = absurd cc
  number_above l d n t (Ok a) q b = let en : a.number ≡ n = cc in omega (arith, (admission_ok P s l d a q).number)

  begun_above : (c : Call) (l n t : ℕ) → fed_call c (step P s c).0 ≡ begun l n t → ((table_at s l).number < n) × (n ≤ (table_at (step P s c).1 l).number)
  begun_above c l n t e =
      let f = begin_only c (step P s c).0 l n t e in
      let given = (inv_step P lawful v h s I c).times.given l n t (inl (fed_began c (step P s c).0 l n t e)) in (
        number_above l f.0 n t (admission P s l f.0) refl (ap (λ k. (step P s k).0) (sym f.1) ∙ f.2),
        given.number,
      )

pub floor_never_falls : FloorNeverFalls
floor_never_falls P v cs c st l = (step_on P st.lawful v (history P v cs) (run P v cs).1 (reached P v cs st) c).floors l

-- every number given in a run from s is above those that s has given
above : (P : Parts) → Lawful P → (v : State) (h : List Event) (s : State) → Inv P v h s → (cs : List Call) (u : Transaction)
    → In u (transactions (feeds (log P s cs))) → (table_at s u.level).number < u.number
above P lawful v h s I [] u i = absurd i
above P lawful v h s I (c ∷ cs) u i =
    elim (told_first (fed_call c (step P s c).0) (feeds (log P (step P s c).1 cs)) u i) [
      | inl e ↦ (begun_above P lawful v h s I c u.level u.number u.stamp e).0
      | inr j ↦
          let later = above P lawful v (event c (step P s c).0 ∷ h) (step P s c).1 (inv_step P lawful v h s I c) cs u j in
          omega (arith, later, (step_on P lawful v h s I c).numbers u.level)
    ]

abbrev Rises : List (Fed ℕ) → Type 0
Rises fs = (i j : ℕ) (u w : Transaction) → i < j → slice_get (transactions fs) i ≡ Some u → slice_get (transactions fs) j ≡ Some w → u.level ≡ w.level → u.number < w.number

rises_more : (f : Fed ℕ) (fs : List (Fed ℕ)) → Rises fs
    → ((l n t : ℕ) → f ≡ begun l n t → (w : Transaction) → In w (transactions fs) → l ≡ w.level → n < w.number) → Rises (f ∷ fs)
rises_more skipped fs rest first = rest
rises_more (got l n x) fs rest first = rest
rises_more (wrote l n x b) fs rest first = rest
rises_more (commits l n) fs rest first = rest
rises_more (begun l n t) fs rest first = by
  where
    by : Rises (begun l n t ∷ fs)
    by zero zero u w lt p q e = absurd (omega arith)
    by (suc i) zero u w lt p q e = absurd (omega arith)
    by (suc i) (suc j) u w lt p q e = rest i j u w (omega arith) p q e
    by zero (suc j) u w lt p q e =
        let same : record { level = l; number = n; stamp = t } ≡ u = same_Some _ u p in
        let far = first l n t refl w (in_nth (transactions fs) j w q) (ap (λ (y : Transaction). y.level) same ∙ e) in
        omega (arith, far, ap (λ (y : Transaction). y.number) same)

rises : (P : Parts) → Lawful P → (v : State) (h : List Event) (s : State) → Inv P v h s → (cs : List Call) → Rises (feeds (log P s cs))
rises P lawful v h s I [] = λ i j u w lt p q e. absurd (none-some u p)
rises P lawful v h s I (c ∷ cs) =
    let next : State = (step P s c).1 in
    let J : Inv P v (event c (step P s c).0 ∷ h) next = inv_step P lawful v h s I c in
    rises_more (fed_call c (step P s c).0) (feeds (log P next cs)) (rises P lawful v (event c (step P s c).0 ∷ h) next J cs)
    (λ l n t e w i same.
    let low = (begun_above P lawful v h s I c l n t e).1 in
    let high = above P lawful v (event c (step P s c).0 ∷ h) next J cs w i in
    omega (arith, low, high, ap (λ b. (table_at next b).number) same))

pub numbers_rise : NumbersRise
numbers_rise P v cs st = rises P st.lawful v [] v (inv_start P v st) cs

all_by_place : (its : List Item) → ((x : ℕ) → x < length its → keeps_rule (row_of its x) ≡ true) → AllByRecursion (λ it. keeps_rule it.row ≡ true) its
all_by_place [] f = tt
all_by_place (it ∷ its) f = (f 0 (omega arith), all_by_place its (λ x lt. f (suc x) (omega arith)))

pub rows_keep_rule : RowsKeepRule
rows_keep_rule P v cs st =
    let I = reached P v cs st in
    all_by_place (run P v cs).1.items (λ x lt. (I.rows x (omega (arith, I.frame.count))).rule)

-- an item with a version is known
pub row_known : (its : List Item) (x : ℕ) (w : Version) → In w (row_of its x) → x < length its
row_known [] x w i = absurd i
row_known (it ∷ its) zero w i = omega arith
row_known (it ∷ its) (suc x) w i = omega (arith, row_known its x w i)

pub pending_has_owner : PendingHasOwner
pending_has_owner P v cs st x w i p =
    let I = reached P v cs st in
    let lt = row_known (run P v cs).1.items x w i in
    elim ((I.rows x (omega (arith, I.frame.count))).version w i) [
      | inl o ↦ absurd (pending_committed p o.state)
      | inr o ↦ elim o.state [
        | inl a ↦ subst (λ l. ActiveIn (run P v cs).1.tables l w.number w.stamp) (sym (I.frame.levels x)) a.1
        | inr c ↦ absurd (pending_committed p c.0)
      ]
    ]

-- a transaction that stored something has a last stored value
stored_known : (h : List Event) (l n x a : ℕ) → In (stored l n x a) h → (b : ℕ) × (last_stored h l n x ≡ Some b)
stored_known [] l n x a i = absurd i
stored_known (idle ∷ h) l n x a (inl e) = absurd cc
stored_known (idle ∷ h) l n x a (inr i) = stored_known h l n x a i
stored_known (began k m t ∷ h) l n x a (inl e) = absurd cc
stored_known (began k m t ∷ h) l n x a (inr i) = stored_known h l n x a i
stored_known (saw k m y b ∷ h) l n x a (inl e) = absurd cc
stored_known (saw k m y b ∷ h) l n x a (inr i) = stored_known h l n x a i
stored_known (ended k m ∷ h) l n x a (inl e) = absurd cc
stored_known (ended k m ∷ h) l n x a (inr i) = stored_known h l n x a i
stored_known (stored k m y b ∷ h) l n x a (inl e) =
    (a, ap (λ ev. last_stored (ev ∷ h) l n x) e ∙ stored_here h l n x a)
stored_known (stored k m y b ∷ h) l n x a (inr i) =
    let f = stored_known h l n x a i in
    cond_both (eqb k l && (eqb m n && eqb y x)) (Some b) (last_stored h l n x) (λ o. (c : ℕ) × (o ≡ Some c)) (λ _. (b, refl)) (λ _. f)

pub active_write_stands : ActiveWriteStands
active_write_stands P v cs st l n x a t i active =
    let I = reached P v cs st in
    let h : List Event = history P v cs in
    let was : In (stored l n x a) h = in_onto (stored l n x a) (events (log P v cs)) [] (wrote_event (log P v cs) l n x a i) in
    let own = I.stores.own l n x a was in
    let f = stored_known h l n x a was in
    (I.rows x (I.stores.known l n x a was)).active_writer n t f.0
    (ap (λ k. last_stored h k n x) own ∙ f.1) (subst (λ k. ActiveIn (run P v cs).1.tables k n t) (sym own) active)

written : (P : Parts) → Lawful P → (v : State) (h : List Event) (s : State) → Inv P v h s → (l n x a : ℕ) (r : Result Writing Refusal) → writing P s l n x a ≡ r
    → answer_by (λ _. Done) (settled s (write_done s x) r).0 ≡ Ok Done
    → (w : Version) × In w (row_of (settled s (write_done s x) r).1.items x) × (w.number ≡ n) × (w.state ≡ Pending) × (w.value ≡ a)
written P lawful v h s I l n x a (Err e) q d = absurd cc
written P lawful v h s I l n x a (Ok wr) q d =
    let f = writing_ok P s l n x a wr q in
    let J : Inv P v (stored l n x a ∷ h) (write_done s x wr).1 = write_kept P lawful v h s I l n x a (Ok wr) q in
    let here : AnItem v s x f.item = an_item v s x f.item I.frame f.found in
    let level : level_of v.items x ≡ l = here.level ∙ f.level in
    let active : ActiveIn s.tables l n f.held.stamp = sender_active P s l n f.held f.from in
    let row : RowKept v (stored l n x a ∷ h) s.tables l x (row_of (write_done s x wr).1.items x) =
    subst (λ k. RowKept v (stored l n x a ∷ h) s.tables k x (row_of (write_done s x wr).1.items x)) level (J.rows x here.known) in
    let g = row.active_writer n f.held.stamp a (stored_here h l n x a) active in
    elim (row.version g.0 g.1) [
      | inl o ↦
          let low = (I.times.given l n f.held.stamp (I.times.active l n f.held.stamp active)).number_low in
          absurd (omega (arith, o.number, g.2, low))
      | inr o ↦
          let value : Some a ≡ Some g.0.value = sym (stored_here h l n x a) ∙ ap (λ k. last_stored (stored l n x a ∷ h) l k x) (sym g.2) ∙ o.value in
          elim o.state [
            | inl p ↦ (g.0, g.1, g.2, p.0, sym (same_Some a g.0.value value))
            | inr c ↦ absurd (J.times.over l n f.held.stamp (subst (λ k. Ended (stored l n x a ∷ h) l k) g.2 c.1) active)
          ]
    ]

pub written_version_stands : WrittenVersionStands
written_version_stands P v cs l n x a st d =
    written P st.lawful v (history P v cs) (run P v cs).1 (reached P v cs st) l n x a (writing P (run P v cs).1 l n x a) refl d
