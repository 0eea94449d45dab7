-- What a run does, and what is true of it whatever was sent before. Assumes nothing.
use Rattle.std.specs.Prelude.{◌≡◌, ℕ, ◌<◌, Bool, true, false, List, ◌++◌, map, length, take, drop, None, nat_le}
use Rattle.orders.specs.Orders.{Order}
use Rattle.placements.specs.Placings.{Placing}
use Rattle.shelves.specs.Items.{Item, ShelfLaws}
use Rattle.rules.specs.Answers.{Answer}
use Rattle.rules.specs.Isolation.{seen_calls, seen_log, SameParts, SameItems, SameRows}
use Rattle.rules.specs.Runs.{run, Sent, logged, log}
use Rattle.rules.specs.Serial.{feeds, Transaction, committed_ones, RunningOrder, serial_reads, serial_values, answered, newest}
use Rattle.rules.specs.Starts.{unfit, start}
use Rattle.rules.specs.States.{Parts, State}
use Rattle.rules.specs.declared.call.Call.{Call}
use Rattle.scheduler.specs.Views.{parts_of, state_of}
use Rattle.scheduler.specs.declared.state.Scheduler.{Scheduler}

-- v is the state of a sound scheduler to which nothing was sent yet
pub record Fresh (P : Parts) (v : State) : Type 0 where
  pub shelf : ShelfLaws v.items
  pub fit : unfit P.order v.items ≡ None
  pub fresh : v ≡ start P.order v.items

-- s was reached from the start v by sending h
pub record Reaches (P : Parts) (v : State) (h : List Call) (s : State) : Type 0 where
  pub from : Fresh P v
  pub sent : s ≡ (run P v h).1

-- the calls sent since v, h and then cs, with their answers
abbrev pub log_since : Parts → State → List Call → List Call → List Answer → List Sent
log_since P v h cs rs = logged (h ++ cs) ((run P v h).0 ++ rs)

-- the run of cs from s to t, answered with rs, shows no level anything of calls that are hidden from it: any other run from an equal start
-- in which l sees the same calls gives l the same answers and rows
abbrev pub HidesCalls : Parts → State → State → List Call → List Answer → Type 0
HidesCalls P s t cs rs =
    (v : State) (h : List Call) → Reaches P v h s →
    (Q : Parts) (w : State) (l : ℕ) (ds : List Call) → Fresh Q w →
    SameParts P Q → SameItems v w → SameRows P.order l v w →
    seen_calls P.order l (h ++ cs) ≡ seen_calls P.order l ds →
    (seen_log P.order l (log_since P v h cs rs) ≡ seen_log P.order l (log Q w ds))
    × SameRows P.order l t (run Q w ds).1

-- in every running order of what was committed since the start, the serial run gives the answered values and the newest values in t
abbrev pub IsSerial : Parts → State → State → List Call → List Answer → Type 0
IsSerial P s t cs rs =
    (v : State) (h : List Call) → Reaches P v h s →
    (us : List Transaction) → RunningOrder P.order (committed_ones (feeds (log_since P v h cs rs))) us →
    (serial_reads (feeds (log_since P v h cs rs)) us (newest v.items) ≡ map (answered (log_since P v h cs rs)) us)
    × ((x : ℕ) → x < length v.items → serial_values (feeds (log_since P v h cs rs)) us (newest v.items) x ≡ newest t.items x)

-- and there is a running order
abbrev pub HasRunningOrder : Parts → State → List Call → List Answer → Type 0
HasRunningOrder P s cs rs =
    (v : State) (h : List Call) → Reaches P v h s →
    (us : List Transaction) × RunningOrder P.order (committed_ones (feeds (log_since P v h cs rs))) us

-- from s to t, with the list of answers before and after
pub record Ran {O P S : Type 0} (order : O → Order) (placing : P → Placing) (items : S → List Item)
    (cs : List Call) (s t : Scheduler O P S) (before after : List Answer) : Type 0 where
  pub answers : after ≡ (run (parts_of order placing s) (state_of items s) cs).0 ++ drop (length cs) before
  pub state : state_of items t ≡ (run (parts_of order placing s) (state_of items s) cs).1
  pub order_stays : t.order ≡ s.order
  pub placement_stays : t.placement ≡ s.placement

-- a run goes on only if there is room for all answers; otherwise nothing changes
pub record Runs {O P S : Type 0} (order : O → Order) (placing : P → Placing) (items : S → List Item)
    (cs : List Call) (s t : Scheduler O P S) (before after : List Answer) (r : Bool) : Type 0 where
  pub room : r ≡ nat_le (length cs) (length before)
  pub too_short : r ≡ false → (t ≡ s) × (after ≡ before)
  pub ran : r ≡ true → Ran order placing items cs s t before after
  pub hides_calls : r ≡ true → HidesCalls (parts_of order placing s) (state_of items s) (state_of items t) cs (take (length cs) after)
  pub serial : r ≡ true → IsSerial (parts_of order placing s) (state_of items s) (state_of items t) cs (take (length cs) after)
  pub running_order : r ≡ true → HasRunningOrder (parts_of order placing s) (state_of items s) cs (take (length cs) after)

-- two runs, of cs from s to t and of ds from u to w: a level that sees the same calls in both since equal starts sees the same answers and rows
abbrev pub SeeTheSame : (P : Parts) (s t : State) (cs : List Call) (rs : List Answer) (Q : Parts) (u w : State) (ds : List Call) (qs : List Answer) → Type 0
SeeTheSame P s t cs rs Q u w ds qs =
    (v : State) (h : List Call) → Reaches P v h s →
    (x : State) (g : List Call) → Reaches Q x g u →
    (l : ℕ) → SameParts P Q → SameItems v x → SameRows P.order l v x →
    seen_calls P.order l (h ++ cs) ≡ seen_calls P.order l (g ++ ds) →
    (seen_log P.order l (log_since P v h cs rs) ≡ seen_log P.order l (log_since Q x g ds qs))
    × SameRows P.order l t w
