-- Law: a serial run of the committed transactions gives the answered values. Assumes nothing.
use Rattle.std.specs.Prelude.{◌≡◌, ℕ, ◌<◌, ◌≤◌, Bool, false, cond, ◌&&◌, ◌||◌, List, [], ◌∷◌, ◌++◌, map, length, Some, None, Ok, Err, filter, Option, ◌==◌}
use Rattle.std.specs.List.{AllByRecursion}
use Rattle.orders.specs.Orders.{Order}
use Rattle.shelves.specs.Items.{Item, row_of}
use Rattle.shelves.specs.Rows.{is_committed}
use Rattle.shelves.specs.declared.version.Version.{Version}
use Rattle.rules.specs.Answers.{Answer}
use Rattle.rules.specs.Choices.{last_that}
use Rattle.rules.specs.Members.{In}
use Rattle.rules.specs.Runs.{run, Sent, log, accepted}
use Rattle.rules.specs.Starts.{Start}
use Rattle.rules.specs.States.{Parts, State}
use Rattle.rules.specs.Watermarks.{strictly_dominates}
use Rattle.rules.specs.declared.answer.Reply.TheVariants.{Clock, Begun, Value, Done}
use Rattle.rules.specs.declared.call.Call.{Call}
use Rattle.rules.specs.declared.call.Call.TheVariants.{Tick, Begin, Read, Write, Commit, Abort}
use Rattle.rules.specs.declared.decision.Chosen.{Chosen}

-- all that running one by one is told of a call: no value that was answered to a read is among it
pub data Fed (V : Type 0) : Type 0 where
  -- a call that does not count: a tick, an abort, and whatever was refused
  skipped : Fed V
  -- level, number and stamp of a transaction that began
  begun : ℕ → ℕ → ℕ → Fed V
  -- level, number and item of an accepted read
  got : ℕ → ℕ → ℕ → Fed V
  -- level, number, item and value of an accepted write
  wrote : ℕ → ℕ → ℕ → V → Fed V
  -- level and number of an accepted commit
  commits : ℕ → ℕ → Fed V

abbrev pub fed_begin : ℕ → Answer → Fed ℕ
fed_begin l (Ok (Clock c)) = skipped
fed_begin l (Ok (Begun n t)) = begun l n t
fed_begin l (Ok (Value x)) = skipped
fed_begin l (Ok Done) = skipped
fed_begin l (Err e) = skipped

-- what is fed for a call and its answer
abbrev pub fed_call : Call → Answer → Fed ℕ
fed_call Tick r = skipped
fed_call (Begin l d) r = fed_begin l r
fed_call (Read l n x) r = cond (accepted r) (got l n x) skipped
fed_call (Write l n x v) r = cond (accepted r) (wrote l n x v) skipped
fed_call (Commit l n) r = cond (accepted r) (commits l n) skipped
fed_call (Abort l n) r = skipped

-- what is fed for a log
abbrev pub feeds : List Sent → List (Fed ℕ)
feeds log = map (λ s. fed_call s.call s.answer) log

pub record Transaction : Type 0 where
  pub level : ℕ
  pub number : ℕ
  pub stamp : ℕ

-- transaction u is the one that level and number name
abbrev pub is_named : Transaction → ℕ → ℕ → Bool
is_named u l n = u.level == l && u.number == n

-- the transactions that began, in the order of their begins
abbrev pub transactions : {V : Type 0} → List (Fed V) → List Transaction
transactions [] = []
transactions (skipped ∷ fs) = transactions fs
transactions (begun l n t ∷ fs) = record { level = l; number = n; stamp = t } ∷ transactions fs
transactions (got l n x ∷ fs) = transactions fs
transactions (wrote l n x v ∷ fs) = transactions fs
transactions (commits l n ∷ fs) = transactions fs

-- an accepted commit names u
abbrev pub has_commit : {V : Type 0} → List (Fed V) → Transaction → Bool
has_commit [] u = false
has_commit (skipped ∷ fs) u = has_commit fs u
has_commit (begun l n t ∷ fs) u = has_commit fs u
has_commit (got l n x ∷ fs) u = has_commit fs u
has_commit (wrote l n x v ∷ fs) u = has_commit fs u
has_commit (commits l n ∷ fs) u = is_named u l n || has_commit fs u

-- the committed transactions
abbrev pub committed_ones : {V : Type 0} → List (Fed V) → List Transaction
committed_ones fs = filter (has_commit fs) (transactions fs)

-- u may come before w: smaller stamps first, a dominating level before a dominated one at equal stamps, and in begin order
-- inside a level
pub record Before (o : Order) (u w : Transaction) : Type 0 where
  pub stamps : u.stamp ≤ w.stamp
  pub dominating_first : u.stamp ≡ w.stamp → strictly_dominates o w.level u.level ≡ false
  pub begin_order : u.level ≡ w.level → u.number < w.number

-- each comes before all behind it
abbrev pub Ordered : Order → List Transaction → Type 0
Ordered o [] = Unit {0}
Ordered o (u ∷ us) = AllByRecursion (Before o u) us × Ordered o us

-- a list of just the transactions cs, in order; none comes before itself, so each stands there once
pub record RunningOrder (o : Order) (cs us : List Transaction) : Type 0 where
  pub all_there : (u : Transaction) → In u cs → In u us
  pub no_other : (u : Transaction) → In u us → In u cs
  pub ordered : Ordered o us

-- one value for each item
abbrev pub Values : Type 0 → Type 0
Values V = ℕ → V

-- item x has the value v, and the others stay
abbrev pub update : {V : Type 0} → Values V → ℕ → V → Values V
update σ x v y = cond (y == x) v (σ y)

-- the values that u reads when it repeats its reads and writes, in the order sent
abbrev pub reads : {V : Type 0} → Transaction → List (Fed V) → Values V → List V
reads u [] σ = []
reads u (skipped ∷ fs) σ = reads u fs σ
reads u (begun l n t ∷ fs) σ = reads u fs σ
reads u (got l n x ∷ fs) σ = cond (is_named u l n) (σ x ∷ reads u fs σ) (reads u fs σ)
reads u (wrote l n x v ∷ fs) σ = reads u fs (cond (is_named u l n) (update σ x v) σ)
reads u (commits l n ∷ fs) σ = reads u fs σ

-- the values that it leaves
abbrev pub leaves : {V : Type 0} → Transaction → List (Fed V) → Values V → Values V
leaves u [] σ = σ
leaves u (skipped ∷ fs) σ = leaves u fs σ
leaves u (begun l n t ∷ fs) σ = leaves u fs σ
leaves u (got l n x ∷ fs) σ = leaves u fs σ
leaves u (wrote l n x v ∷ fs) σ = leaves u fs (cond (is_named u l n) (update σ x v) σ)
leaves u (commits l n ∷ fs) σ = leaves u fs σ

-- what each transaction reads, when they run one by one
abbrev pub serial_reads : {V : Type 0} → List (Fed V) → List Transaction → Values V → List (List V)
serial_reads fs [] σ = []
serial_reads fs (u ∷ us) σ = reads u fs σ ∷ serial_reads fs us (leaves u fs σ)

-- what they leave
abbrev pub serial_values : {V : Type 0} → List (Fed V) → List Transaction → Values V → Values V
serial_values fs [] σ = σ
serial_values fs (u ∷ us) σ = serial_values fs us (leaves u fs σ)

abbrev pub value_read : Answer → List ℕ
value_read (Ok (Clock c)) = []
value_read (Ok (Begun n t)) = []
value_read (Ok (Value x)) = x ∷ []
value_read (Ok Done) = []
value_read (Err e) = []

abbrev pub answer_to : Transaction → Call → Answer → List ℕ
answer_to u Tick r = []
answer_to u (Begin l d) r = []
answer_to u (Read l n x) r = cond (is_named u l n) (value_read r) []
answer_to u (Write l n x v) r = []
answer_to u (Commit l n) r = []
answer_to u (Abort l n) r = []

-- the values that were answered to the accepted reads of u, in the order sent
abbrev pub answered : List Sent → Transaction → List ℕ
answered [] u = []
answered (s ∷ log) u = answer_to u s.call s.answer ++ answered log u

abbrev pub value_of : Option Chosen → ℕ
value_of None = 0
value_of (Some c) = c.version.value

-- the value of the newest committed version: the one with the largest number, which is the last
abbrev pub newest_value : List Version → ℕ
newest_value row = value_of (last_that (λ v. is_committed v.state) row)

-- the newest committed value of each item
abbrev pub newest : List Item → Values ℕ
newest its x = newest_value (row_of its x)

-- in every running order, one-by-one execution of the committed transactions gives each accepted read the value that was
-- answered to it, and leaves each item its newest committed value
abbrev pub SerialRunGivesAnsweredValues : Type 0
SerialRunGivesAnsweredValues =
    (P : Parts) (v : State) (cs : List Call) → Start P v →
    (us : List Transaction) → RunningOrder P.order (committed_ones (feeds (log P v cs))) us →
    (serial_reads (feeds (log P v cs)) us (newest v.items) ≡ map (answered (log P v cs)) us)
    × ((x : ℕ) → x < length v.items → serial_values (feeds (log P v cs)) us (newest v.items) x ≡ newest (run P v cs).1.items x)

-- there always is a running order
abbrev pub RunningOrderExists : Type 0
RunningOrderExists =
    (P : Parts) (v : State) (cs : List Call) → Start P v →
    (us : List Transaction) × RunningOrder P.order (committed_ones (feeds (log P v cs))) us
