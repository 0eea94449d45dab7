-- What happened in a run, with the values that were read, and what makes it right. Assumes nothing.
use Rattle.std.proofs.Common.{◌≡◌, ℕ, ◌<◌, ◌≤◌, true, cond, ◌&&◌, eqb, ◌⊎◌, List, [], ◌∷◌, ◌++◌, map, Some, None, Ok, Err, Option, inl, inr}
use Rattle.std.proofs.lemmas.Option.{none-some, same_Some}
use Rattle.std.proofs.lemmas.Bool.{and_parts, cond_both, eqb-true}
use Rattle.orders.specs.Orders.{Order}
use Rattle.rules.specs.Answers.{Answer}
use Rattle.rules.specs.Members.{In}
use Rattle.rules.specs.Runs.{Sent, accepted}
use Rattle.rules.specs.Serial.{Fed, skipped, begun, got, wrote, commits, Transaction, is_named, Values}
use Rattle.rules.specs.Watermarks.{strictly_dominates}
use Rattle.rules.specs.declared.answer.Reply.TheVariants.{Clock, Begun, Value, Done}
use Rattle.rules.specs.declared.call.Call.{Call}
use Rattle.rules.specs.declared.call.Call.TheVariants.{Tick, Begin, Read, Write, Commit, Abort}

-- a call by what it did; ends that are aborts, ticks and refused calls are idle
pub data Event : Type 0 where
  idle : Event
  -- level, number, stamp
  began : ℕ → ℕ → ℕ → Event
  -- level, number, item, value
  saw : ℕ → ℕ → ℕ → ℕ → Event
  stored : ℕ → ℕ → ℕ → ℕ → Event
  -- level, number of a commit
  ended : ℕ → ℕ → Event

abbrev pub event_begin : ℕ → Answer → Event
event_begin l (Ok (Clock c)) = idle
event_begin l (Ok (Begun n t)) = began l n t
event_begin l (Ok (Value x)) = idle
event_begin l (Ok Done) = idle
event_begin l (Err e) = idle

abbrev pub event_read : ℕ → ℕ → ℕ → Answer → Event
event_read l n x (Ok (Clock c)) = idle
event_read l n x (Ok (Begun k t)) = idle
event_read l n x (Ok (Value a)) = saw l n x a
event_read l n x (Ok Done) = idle
event_read l n x (Err e) = idle

abbrev pub event : Call → Answer → Event
event Tick r = idle
event (Begin l d) r = event_begin l r
event (Read l n x) r = event_read l n x r
event (Write l n x v) r = cond (accepted r) (stored l n x v) idle
event (Commit l n) r = cond (accepted r) (ended l n) idle
event (Abort l n) r = idle

-- the events of a log, in the order sent
abbrev pub events : List Sent → List Event
events log = map (λ s. event s.call s.answer) log

-- what running one by one is told of an event
abbrev pub told : Event → Fed ℕ
told idle = skipped
told (began l n t) = begun l n t
told (saw l n x a) = got l n x
told (stored l n x a) = wrote l n x a
told (ended l n) = commits l n

-- the values that u saw, in order
abbrev pub seen_by : Transaction → List Event → List ℕ
seen_by u [] = []
seen_by u (idle ∷ es) = seen_by u es
seen_by u (began l n t ∷ es) = seen_by u es
seen_by u (saw l n x a ∷ es) = cond (is_named u l n) (a ∷ []) [] ++ seen_by u es
seen_by u (stored l n x a ∷ es) = seen_by u es
seen_by u (ended l n ∷ es) = seen_by u es

-- a history has its newest event first
abbrev pub onto : List Event → List Event → List Event
onto [] h = h
onto (e ∷ es) h = onto es (e ∷ h)

-- the last value that transaction n of level l stored in x
abbrev pub last_stored : List Event → ℕ → ℕ → ℕ → Option ℕ
last_stored [] l n x = None
last_stored (idle ∷ h) l n x = last_stored h l n x
last_stored (began a k t ∷ h) l n x = last_stored h l n x
last_stored (saw a k y b ∷ h) l n x = last_stored h l n x
last_stored (stored a k y b ∷ h) l n x = cond (eqb a l && (eqb k n && eqb y x)) (Some b) (last_stored h l n x)
last_stored (ended a k ∷ h) l n x = last_stored h l n x

abbrev pub Began : List Event → ℕ → ℕ → ℕ → Type 0
Began h l n t = In (began l n t) h

abbrev pub Ended : List Event → ℕ → ℕ → Type 0
Ended h l n = In (ended l n) h

-- what is in a part of a history is in the history
pub in_past : (e : Event) (es g : List Event) → In e g → In e (onto es g)
in_past e [] g i = i
in_past e (f ∷ es) g i = in_past e es (f ∷ g) (inr i)

pub in_onto : (e : Event) (es g : List Event) → In e es → In e (onto es g)
in_onto e [] g i = absurd i
in_onto e (f ∷ es) g (inl p) = in_past e es (f ∷ g) (inl p)
in_onto e (f ∷ es) g (inr i) = in_onto e es (f ∷ g) i

-- what was stored last was stored
stored_first : (a k y c l n x b : ℕ) (h : List Event) → (last_stored h l n x ≡ Some b → In (stored l n x b) h)
    → last_stored (stored a k y c ∷ h) l n x ≡ Some b → In (stored l n x b) (stored a k y c ∷ h)
stored_first a k y c l n x b h further =
    cond_both (eqb a l && (eqb k n && eqb y x)) (Some c) (last_stored h l n x)
    (λ v. v ≡ Some b → In (stored l n x b) (stored a k y c ∷ h))
    (λ t. λ e.
    let p = and_parts (eqb a l) (eqb k n && eqb y x) t in
    let q = and_parts (eqb k n) (eqb y x) p.1 in
    let la : a ≡ l = eqb-true a l p.0 in
    let kn : k ≡ n = eqb-true k n q.0 in
    let yx : y ≡ x = eqb-true y x q.1 in
    let cb : c ≡ b = same_Some c b e in
    inl (cc))
    (λ _. λ e. inr (further e))

pub stored_in : (h : List Event) (l n x b : ℕ) → last_stored h l n x ≡ Some b → In (stored l n x b) h
stored_in [] l n x b e = absurd (none-some b e)
stored_in (idle ∷ h) l n x b e = inr (stored_in h l n x b e)
stored_in (began a k t ∷ h) l n x b e = inr (stored_in h l n x b e)
stored_in (saw a k y c ∷ h) l n x b e = inr (stored_in h l n x b e)
stored_in (stored a k y c ∷ h) l n x b e = stored_first a k y c l n x b h (stored_in h l n x b) e
stored_in (ended a k ∷ h) l n x b e = inr (stored_in h l n x b e)

-- a writer j with stamp s of an item of level a comes before the reader n with stamp t of level l
pub record Precedes (l n t a j s : ℕ) : Type 0 where
  pub own : a ≡ l → j < n
  pub lower : (a ≡ l → ⊥) → s < t

-- a committed writer of x, which has level a
pub record Writer (h : List Event) (a x j s b : ℕ) : Type 0 where
  pub start : Began h a j s
  pub finish : Ended h a j
  pub stores : last_stored h a j x ≡ Some b

-- the value b that the reader saw is the one of writer k, or the first value where k is 0, and no writer after k comes
-- before the reader
pub record Outside (h : List Event) (first : Values ℕ) (a l n t x b : ℕ) : Type 0 where
  pub k : ℕ
  pub source : ((k ≡ 0) × (b ≡ first x)) ⊎ ((s : ℕ) × Writer h a x k s b × Precedes l n t a k s)
  pub quiet : (j s c : ℕ) → Writer h a x j s c → Precedes l n t a j s → j ≤ k

-- a read of b by transaction n of level l, before which g had happened: its own last value, or one from outside
abbrev pub ReadRight : (lev : ℕ → ℕ) (first : Values ℕ) (h g : List Event) (l n x b : ℕ) → Type 0
ReadRight lev first h g l n x b =
    (last_stored g l n x ≡ Some b)
    ⊎ ((last_stored g l n x ≡ None) × ((t : ℕ) → Began h l n t → Outside h first (lev x) l n t x b))

-- all reads of g, a part of the history h
abbrev pub ReadsRight : (lev : ℕ → ℕ) (first : Values ℕ) (h g : List Event) → Type 0
ReadsRight lev first h [] = Unit {0}
ReadsRight lev first h (idle ∷ g) = ReadsRight lev first h g
ReadsRight lev first h (began l n t ∷ g) = ReadsRight lev first h g
ReadsRight lev first h (saw l n x b ∷ g) = ReadRight lev first h g l n x b × ReadsRight lev first h g
ReadsRight lev first h (stored l n x b ∷ g) = ReadsRight lev first h g
ReadsRight lev first h (ended l n ∷ g) = ReadsRight lev first h g

-- the value b that x has in the end: the first one where nobody wrote it, or that of the writer with the largest number
abbrev pub EndRight : (lev : ℕ → ℕ) (first : Values ℕ) (h : List Event) (x b : ℕ) → Type 0
EndRight lev first h x b =
    (((j s c : ℕ) → Writer h (lev x) x j s c → ⊥) × (b ≡ first x))
    ⊎ ((k s : ℕ) × Writer h (lev x) x k s b × ((j r c : ℕ) → Writer h (lev x) x j r c → j ≤ k))

-- a history of which any serial run gives the values that were seen
pub record HistoryRight (o : Order) (lev : ℕ → ℕ) (first end : Values ℕ) (K : ℕ) (h : List Event) : Type 0 where
  pub once : (l n t s : ℕ) → Began h l n t → Began h l n s → t ≡ s
  pub positive : (l n t : ℕ) → Began h l n t → 1 ≤ n
  pub own_items : (l n x b : ℕ) → In (stored l n x b) h → lev x ≡ l
  pub lower_items : (l n x b : ℕ) → In (saw l n x b) h → (lev x ≡ l) ⊎ (strictly_dominates o l (lev x) ≡ true)
  pub seen : ReadsRight lev first h h
  pub ends : (x : ℕ) → x < K → EndRight lev first h x (end x)
