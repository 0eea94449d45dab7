-- A read that is told to wait stands above the floor, so somebody is active there. Assumes nothing.
use Rattle.std.proofs.Common.{◌≡◌, ℕ, ◌<◌, ◌≤◌, Bool, true, false, cond, not, ◌&&◌, eqb, ltb, ◌⊎◌, List, Some, None, Ok, Err, Option, Result, sym, refl, ap, ◌∙◌, subst, inl, inr, arith}
use Rattle.std.specs.List.{slice_get}
use Rattle.std.proofs.lemmas.Bool.{ltb-true}
use Rattle.shelves.specs.Items.{Item, level_in, level_of}
use Rattle.tables.specs.Tables.{held}
use Rattle.tables.specs.declared.place.Active.{Active}
use Rattle.tables.specs.declared.place.Held.{Held}
use Rattle.rules.specs.Choices.{last_that, up_to, older_than, is_pending}
use Rattle.rules.specs.Members.{In}
use Rattle.rules.specs.Reached.{WaitNamesTheEarliest}
use Rattle.rules.specs.Runs.{answer_by, run}
use Rattle.rules.specs.States.{Parts, State, table_at}
use Rattle.rules.specs.Steps.{settled, and_then, known, sender, item_of, own_read, wait, lower_read, read_below, read_item, reading, read_done}
use Rattle.rules.specs.Watermarks.{at_or_below, floor, stands_before, waited_for}
use Rattle.rules.specs.declared.answer.Reply.TheVariants.{Value}
use Rattle.rules.specs.declared.decision.Chosen.{Chosen}
use Rattle.rules.specs.declared.decision.Reading.{Reading}
use Rattle.rules.specs.declared.refusal.Refusal.{Refusal}
use Rattle.rules.specs.declared.refusal.Refusal.TheVariants.{Unfit, UnknownLevel, NotActive, UnknownItem, NotDominated, PendingOther, Wait, LowerPending}
use Rattle.rules.proofs.History.{Event}
use Rattle.rules.proofs.Invariant.{ActiveIn, Inv}
use Rattle.rules.proofs.Inverted.{sender_ok, known_ok}
use Rattle.rules.proofs.Marks.{floor_is}
use Rattle.rules.proofs.Reaching.{history, reached}
use Rattle.rules.proofs.ReadStep.{sender_active}
use Rattle.rules.proofs.Tabled.{earliest_some, earliest_none}

then_err : {A B : Type 0} (r : Result A Refusal) (f : A → Result B Refusal) (e : Refusal) → and_then r f ≡ Err e
    → (r ≡ Err e) ⊎ ((a : A) × (r ≡ Ok a) × (f a ≡ Err e))
then_err (Ok a) f e h = inr (a, refl, h)
then_err (Err d) f e h = inl cc

known_err : {A : Type 0} (o : Option A) (d e : Refusal) → known o d ≡ Err e → d ≡ e
known_err None d e h = cc
known_err (Some a) d e h = absurd cc

-- a test whose other way is another refusal
past : {A : Type 0} (b : Bool) (r : Result A Refusal) (d e : Refusal) → (d ≡ e → ⊥) → cond b r (Err d) ≡ Err e → r ≡ Err e
past true r d e ne h = h
past false r d e ne h = absurd (ne cc)

not_past : {A : Type 0} (b : Bool) (a : A) (d e : Refusal) → (d ≡ e → ⊥) → cond b (Err d) (Ok a) ≡ Err e → ⊥
not_past true a d e ne h = ne cc
not_past false a d e ne h = cc

sender_waits_not : (P : Parts) (s : State) (l n a k : ℕ) → sender P s l n ≡ Err (Wait a k) → ⊥
sender_waits_not P s l n a k h =
    let p = past s.sound _ Unfit (Wait a k) (λ q. cc) h in
    let r = past (ltb l P.order.levels) (known (held (table_at s l) n) NotActive) UnknownLevel (Wait a k) (λ q. cc) p in
    let e = known_err (held (table_at s l) n) NotActive (Wait a k) r in
    cc

own_waits_not : (l n : ℕ) (o : Option Chosen) (a k : ℕ) → own_read l n o ≡ Err (Wait a k) → ⊥
own_waits_not l n None a k h = cc
own_waits_not l n (Some c) a k h =
    not_past (is_pending c.version && not (eqb c.version.number n)) _ (PendingOther l c.version.number) (Wait a k)
    (λ q. cc) h

lower_waits_not : (o : Option Chosen) (a k : ℕ) → lower_read o ≡ Err (Wait a k) → ⊥
lower_waits_not None a k h = cc
lower_waits_not (Some c) a k h = not_past (is_pending c.version) _ LowerPending (Wait a k) (λ q. cc) h

-- the reader's stamp is above the floor
abbrev Waits : Parts → State → ℕ → ℕ → ℕ → ℕ → Type 0
Waits P s b t a k = (floor P s b < t) × (wait (waited_for P s b) ≡ Wait a k)

below_waits : (P : Parts) (s : State) (t : ℕ) (it : Item) (a k : ℕ) (b : Bool) → ltb (floor P s it.level) t ≡ b
    → cond b (Err (wait (waited_for P s it.level))) (lower_read (last_that (older_than t) it.row)) ≡ Err (Wait a k) → Waits P s it.level t a k
below_waits P s t it a k true q h = (ltb-true (floor P s it.level) t q, cc)
below_waits P s t it a k false q h = absurd (lower_waits_not (last_that (older_than t) it.row) a k h)

by_level : (P : Parts) (s : State) (l n : ℕ) (hd : Held) (it : Item) (a k : ℕ) (b : Bool)
    → cond b (own_read l n (last_that (up_to n) it.row)) (read_below P s hd.stamp it) ≡ Err (Wait a k) → Waits P s it.level hd.stamp a k
by_level P s l n hd it a k true h = absurd (own_waits_not l n (last_that (up_to n) it.row) a k h)
by_level P s l n hd it a k false h = below_waits P s hd.stamp it a k (ltb (floor P s it.level) hd.stamp) refl h

record Waiting (P : Parts) (s : State) (l n x a k : ℕ) : Type 0 where
  held : Held
  from : sender P s l n ≡ Ok held
  waits : Waits P s (level_of s.items x) held.stamp a k

item_waits : (P : Parts) (s : State) (l n x a k : ℕ) (hd : Held) → and_then (item_of s x) (read_item P s l n hd) ≡ Err (Wait a k)
    → Waits P s (level_of s.items x) hd.stamp a k
item_waits P s l n x a k hd h =
    elim (then_err (item_of s x) (read_item P s l n hd) (Wait a k) h) [
      | inl e ↦ let d = known_err (slice_get s.items x) UnknownItem (Wait a k) e in absurd cc
      | inr g ↦
          let it : Item = g.0 in
          let found = known_ok (slice_get s.items x) UnknownItem it g.1 in
          let r = past (P.order.dominates l it.level) _ NotDominated (Wait a k) (λ q. cc) g.2 in
          subst (λ b. Waits P s b hd.stamp a k) (sym (ap level_in found)) (by_level P s l n hd it a k (eqb it.level l) r)
    ]

waiting : (P : Parts) (s : State) (l n x a k : ℕ) → reading P s l n x ≡ Err (Wait a k) → Waiting P s l n x a k
waiting P s l n x a k h =
    elim (then_err (sender P s l n) (λ hd. and_then (item_of s x) (read_item P s l n hd)) (Wait a k) h) [
      | inl e ↦ absurd (sender_waits_not P s l n a k e)
      | inr f ↦ record { held = f.0; from = f.1; waits = item_waits P s l n x a k f.0 f.2 }
    ]

abbrev Earliest : Parts → State → ℕ → ℕ → ℕ → Type 0
Earliest P s b a k =
    (y : Active) × (y.level ≡ a) × (y.number ≡ k) × In y (at_or_below P s b) × ((z : Active) → In z (at_or_below P s b) → stands_before z y ≡ true → ⊥)

-- the reader's stamp is not above the clock, so the floor is not the clock
named : (P : Parts) (s : State) (b t a k : ℕ) → t ≤ s.clock → floor P s b < t → (o : Option Active) → waited_for P s b ≡ o → wait o ≡ Wait a k → Earliest P s b a k
named P s b t a k le lt None q e =
    absurd (elim (floor_is P s b).one [
      | inl same ↦ omega arith
      | inr f ↦ earliest_none (at_or_below P s b) q f.0 f.1
    ])
named P s b t a k le lt (Some y) q e =
    let f = earliest_some (at_or_below P s b) y q in
    let ea : y.level ≡ a = cc in
    let ek : y.number ≡ k = cc in
    (y, ea, ek, f.0, f.1)

wait_told : (P : Parts) (v : State) (h : List Event) (s : State) → Inv P v h s → (l n x a k : ℕ) (r : Result Reading Refusal) → reading P s l n x ≡ r
    → answer_by Value (settled s (read_done s x) r).0 ≡ Err (Wait a k) → Earliest P s (level_of s.items x) a k
wait_told P v h s I l n x a k (Ok r) q d = absurd cc
wait_told P v h s I l n x a k (Err e) q d =
    let same : e ≡ Wait a k = cc in
    let w = waiting P s l n x a k (q ∙ ap Err same) in
    let t : ℕ = w.held.stamp in
    let active : ActiveIn s.tables l n t = sender_active P s l n w.held (sender_ok P s l n w.held w.from) in
    let given = I.times.given l n t (I.times.active l n t active) in
    named P s (level_of s.items x) t a k (omega (arith, given.stamp, I.frame.stamps l)) w.waits.0 (waited_for P s (level_of s.items x)) refl w.waits.1

pub wait_names_the_earliest : WaitNamesTheEarliest
wait_names_the_earliest P v cs l n x a k st d =
    wait_told P v (history P v cs) (run P v cs).1 (reached P v cs st) l n x a k (reading P (run P v cs).1 l n x) refl d
