-- The laws are about something: two runs that they compare, and a committed reader above. Assumes nothing.
use Rattle.std.specs.Prelude.{◌≡◌, true, false, List, [], ◌∷◌}
use Rattle.orders.specs.Chains.{chain}
use Rattle.orders.specs.Tables.{tabled}
use Rattle.placements.specs.Placings.{at_clock}
use Rattle.shelves.specs.Items.{Item, first_item, level_of}
use Rattle.rules.specs.Isolation.{visible, seen_calls, SameParts, SameRows}
use Rattle.rules.specs.Members.{In}
use Rattle.rules.specs.Runs.{step, log, accepted}
use Rattle.rules.specs.Serial.{got, feeds, committed_ones}
use Rattle.rules.specs.Starts.{start, Start}
use Rattle.rules.specs.States.{Parts, State}
use Rattle.rules.specs.declared.call.Call.{Call}
use Rattle.rules.specs.declared.call.Call.TheVariants.{Tick, Begin, Read, Write, Commit}

-- two levels in a line
abbrev pub line : Parts
line = record { order = chain 2; placing = at_clock }

-- the same two levels, given as rows of bits
abbrev pub grid : Parts
grid = record { order = tabled 2 (1 ∷ 3 ∷ []); placing = at_clock }

-- an item at each level
abbrev pub two_items : List Item
two_items = first_item 0 100 ∷ first_item 1 200 ∷ []

abbrev pub begins_line : State
begins_line = start (chain 2) two_items

abbrev pub begins_grid : State
begins_grid = start (tabled 2 (1 ∷ 3 ∷ [])) (first_item 0 100 ∷ first_item 1 300 ∷ [])

-- level 1 reads below and commits, while level 0 writes
abbrev pub busy : List Call
busy = Begin 1 0 ∷ Begin 0 0 ∷ Read 1 1 0 ∷ Write 0 1 0 101 ∷ Commit 1 1 ∷ Tick ∷ Commit 0 1 ∷ []

-- level 0 alone
abbrev pub alone : List Call
alone = Begin 0 0 ∷ Write 0 1 0 101 ∷ Tick ∷ Commit 0 1 ∷ []

-- the law of hidden calls compares these two runs, over orders of two kinds and with different hidden items, and the hidden begin was accepted
pub record HiddenCallsAreCompared : Type 0 where
  pub line_starts : Start line begins_line
  pub grid_starts : Start grid begins_grid
  pub same_parts : SameParts line grid
  pub same_rows : SameRows (chain 2) 0 begins_line begins_grid
  pub same_calls : seen_calls (chain 2) 0 busy ≡ seen_calls (chain 2) 0 alone
  pub hidden : visible (chain 2) 0 (Begin 1 0) ≡ false
  pub hidden_accepted : accepted (step line begins_line (Begin 1 0)).0 ≡ true

-- in the first of them a committed transaction of level 1 has read an item of level 0
pub record CommittedReaderAbove : Type 0 where
  pub committed : In (record { level = 1; number = 1; stamp = 1 }) (committed_ones (feeds (log line begins_line busy)))
  pub read_below : In (got 1 1 0) (feeds (log line begins_line busy))
  pub item_level : level_of two_items 0 ≡ 0
