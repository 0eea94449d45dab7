-- What holds in every state that a run reaches. Assumes nothing.
use Rattle.std.specs.Prelude.{◌≡◌, ℕ, ◌<◌, ◌≤◌, true, List, Some, Ok, Err, ◌≢◌}
use Rattle.std.specs.List.{AllByRecursion, slice_get}
use Rattle.shelves.specs.Items.{level_of, row_of}
use Rattle.shelves.specs.Rows.{keeps_rule}
use Rattle.shelves.specs.declared.version.State.TheVariants.{Committed, Pending}
use Rattle.shelves.specs.declared.version.Version.{Version}
use Rattle.tables.specs.declared.place.Active.{Active}
use Rattle.tables.specs.declared.place.Place.TheVariants.{Open}
use Rattle.rules.specs.Members.{In}
use Rattle.rules.specs.Runs.{step, run, log}
use Rattle.rules.specs.Serial.{wrote, feeds, Transaction, transactions}
use Rattle.rules.specs.Starts.{Start}
use Rattle.rules.specs.States.{Parts, State, table_at}
use Rattle.rules.specs.Steps.{lowest}
use Rattle.rules.specs.Watermarks.{at_or_below, floor, stands_before}
use Rattle.rules.specs.declared.answer.Reply.TheVariants.{Done}
use Rattle.rules.specs.declared.call.Call.{Call}
use Rattle.rules.specs.declared.call.Call.TheVariants.{Read, Write}
use Rattle.rules.specs.declared.refusal.Refusal.TheVariants.{Wait}

-- transaction n with stamp t is active at level l
abbrev pub IsActive : State → ℕ → ℕ → ℕ → Type 0
IsActive s l n t = In (Open n t) (table_at s l).places

-- the lowest stamp that a begin may give is never above the clock
abbrev pub QuestionHasRoom : Type 0
QuestionHasRoom = (P : Parts) (v : State) (cs : List Call) → Start P v → (l : ℕ) → lowest P (run P v cs).1 l ≤ (run P v cs).1.clock

-- inside a level, stamps never fall as numbers rise
abbrev pub StampsNeverFall : Type 0
StampsNeverFall =
    (P : Parts) (v : State) (cs : List Call) → Start P v →
    (u w : Transaction) → In u (transactions (feeds (log P v cs))) → In w (transactions (feeds (log P v cs))) →
    u.level ≡ w.level → u.number < w.number → u.stamp ≤ w.stamp

-- every stamp given lies from 1 to the clock
abbrev pub StampsWithinClock : Type 0
StampsWithinClock =
    (P : Parts) (v : State) (cs : List Call) → Start P v →
    (u : Transaction) → In u (transactions (feeds (log P v cs))) → (1 ≤ u.stamp) × (u.stamp ≤ (run P v cs).1.clock)

-- numbers given at one level are distinct: they rise in the order of the begins
abbrev pub NumbersRise : Type 0
NumbersRise =
    (P : Parts) (v : State) (cs : List Call) → Start P v →
    (i j : ℕ) (u w : Transaction) → i < j →
    slice_get (transactions (feeds (log P v cs))) i ≡ Some u → slice_get (transactions (feeds (log P v cs))) j ≡ Some w →
    u.level ≡ w.level → u.number < w.number

-- no call lowers the floor of a level
abbrev pub FloorNeverFalls : Type 0
FloorNeverFalls =
    (P : Parts) (v : State) (cs : List Call) (c : Call) → Start P v →
    let s = (run P v cs).1 in (l : ℕ) → floor P s l ≤ floor P (step P s c).1 l

-- every row has 1 to 8 versions, in order, one of them committed
abbrev pub RowsKeepRule : Type 0
RowsKeepRule =
    (P : Parts) (v : State) (cs : List Call) → Start P v → AllByRecursion (λ it. keeps_rule it.row ≡ true) (run P v cs).1.items

-- the version of an accepted write has gone in
abbrev pub WrittenVersionStands : Type 0
WrittenVersionStands =
    (P : Parts) (v : State) (cs : List Call) (l n x a : ℕ) → Start P v →
    let s = (run P v cs).1 in
    (step P s (Write l n x a)).0 ≡ Ok Done →
    (w : Version) × In w (row_of (step P s (Write l n x a)).1.items x) × (w.number ≡ n) × (w.state ≡ Pending) × (w.value ≡ a)

-- every pending version belongs to an active transaction of the item's level, and carries its number and stamp
abbrev pub PendingHasOwner : Type 0
PendingHasOwner =
    (P : Parts) (v : State) (cs : List Call) → Start P v →
    let s = (run P v cs).1 in
    (x : ℕ) (w : Version) → In w (row_of s.items x) → w.state ≡ Pending → IsActive s (level_of s.items x) w.number w.stamp

-- every accepted write of an active transaction has its version
abbrev pub ActiveWriteStands : Type 0
ActiveWriteStands =
    (P : Parts) (v : State) (cs : List Call) → Start P v →
    let s = (run P v cs).1 in
    (l n x a t : ℕ) → In (wrote l n x a) (feeds (log P v cs)) → IsActive s l n t →
    (w : Version) × In w (row_of s.items x) × (w.number ≡ n)

-- w is the newest committed version of a row
pub record Newest (row : List Version) (w : Version) : Type 0 where
  pub stands : In w row
  pub committed : w.state ≡ Committed
  pub newest : (u : Version) → In u row → u.state ≡ Committed → u.number ≤ w.number

-- no call loses the newest committed version of a row
abbrev pub NewestNeverLost : Type 0
NewestNeverLost =
    (P : Parts) (v : State) (cs : List Call) (c : Call) → Start P v →
    let s = (run P v cs).1 in
    (x : ℕ) (w : Version) → Newest (row_of s.items x) w →
    (u : Version) × In u (row_of (step P s c).1.items x)
    × (u.number ≡ w.number) × (u.stamp ≡ w.stamp) × (u.state ≡ Committed) × (u.value ≡ w.value)

-- a refusal to wait names an active transaction at or below the item's level, before which none of them stands
abbrev pub WaitNamesTheEarliest : Type 0
WaitNamesTheEarliest =
    (P : Parts) (v : State) (cs : List Call) (l n x a k : ℕ) → Start P v →
    let s = (run P v cs).1 in
    let all = at_or_below P s (level_of s.items x) in
    (step P s (Read l n x)).0 ≡ Err (Wait a k) →
    (y : Active) × (y.level ≡ a) × (y.number ≡ k) × In y all × ((z : Active) → In z all → stands_before z y ≢ true)
