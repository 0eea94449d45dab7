-- Law: hidden calls change no visible answer. Assumes nothing.
use Rattle.std.specs.Prelude.{◌≡◌, ℕ, Bool, true, List, map, filter}
use Rattle.orders.specs.Orders.{Order}
use Rattle.placements.specs.declared.entry.Entry.{Entry}
use Rattle.shelves.specs.Items.{level_of, row_of}
use Rattle.rules.specs.Runs.{run, Sent, log}
use Rattle.rules.specs.Starts.{Start}
use Rattle.rules.specs.States.{Parts, State}
use Rattle.rules.specs.declared.call.Call.{Call}
use Rattle.rules.specs.declared.call.Call.TheVariants.{Tick, Begin, Read, Write, Commit, Abort}

-- level l sees ticks and the steps of the levels that it dominates
abbrev pub visible : Order → ℕ → Call → Bool
visible o l Tick = true
visible o l (Begin a d) = o.dominates l a
visible o l (Read a n x) = o.dominates l a
visible o l (Write a n x v) = o.dominates l a
visible o l (Commit a n) = o.dominates l a
visible o l (Abort a n) = o.dominates l a

-- the calls that l sees, in their order
abbrev pub seen_calls : Order → ℕ → List Call → List Call
seen_calls o l cs = filter (visible o l) cs

-- those calls with their answers
abbrev pub seen_log : Order → ℕ → List Sent → List Sent
seen_log o l log = filter (λ s. visible o l s.call) log

-- the parts mean the same
pub record SameParts (P Q : Parts) : Type 0 where
  pub levels : P.order.levels ≡ Q.order.levels
  pub dominates : (a b : ℕ) → P.order.dominates a b ≡ Q.order.dominates a b
  pub placing : (d lo hi : ℕ) (es : List Entry) → P.placing d lo hi es ≡ Q.placing d lo hi es

-- the same items, with the same levels
abbrev pub SameItems : State → State → Type 0
SameItems s t = map (λ it. it.level) s.items ≡ map (λ it. it.level) t.items

-- the same rows of all items that l dominates
abbrev pub SameRows : Order → ℕ → State → State → Type 0
SameRows o l s t = (x : ℕ) → o.dominates l (level_of s.items x) ≡ true → row_of s.items x ≡ row_of t.items x

-- two runs in which l sees the same calls give it the same answers, in full and one by one, and leave the same rows at the
-- levels that it dominates, whatever else was sent and whatever else the items held
abbrev pub HiddenCallsChangeNoVisibleAnswer : Type 0
HiddenCallsChangeNoVisibleAnswer =
    (P Q : Parts) (v w : State) (l : ℕ) (cs ds : List Call) →
    Start P v → Start Q w →
    SameParts P Q → SameItems v w → SameRows P.order l v w →
    seen_calls P.order l cs ≡ seen_calls P.order l ds →
    (seen_log P.order l (log P v cs) ≡ seen_log P.order l (log Q w ds))
    × SameRows P.order l (run P v cs).1 (run Q w ds).1
