-- What sending a call does. Assumes nothing.
use Rattle.std.specs.Prelude.{◌≡◌, ℕ, List, [], Err}
use Rattle.orders.specs.Orders.{Order}
use Rattle.placements.specs.Placings.{Placing}
use Rattle.shelves.specs.Items.{Item}
use Rattle.shelves.specs.declared.edit.Edit.{Edit}
use Rattle.rules.specs.Answers.{Answer}
use Rattle.rules.specs.Runs.{step}
use Rattle.rules.specs.States.{Parts, State, ItemEdit}
use Rattle.rules.specs.declared.call.Call.{Call}
use Rattle.rules.specs.declared.call.Call.TheVariants.{Tick, Begin, Read, Write, Commit, Abort}
use Rattle.rules.specs.declared.refusal.Refusal.{Refusal}
use Rattle.steps.specs.Ends.{read_ruled, write_ruled, commit_ruled, abort_ruled}
use Rattle.steps.specs.Traces.{Traced}
use Rattle.scheduler.specs.Views.{parts_of, state_of}
use Rattle.scheduler.specs.declared.state.Scheduler.{Scheduler}

-- the edits that a call is ruled to make
abbrev pub ruled_edits : Call → Parts → State → List ItemEdit
ruled_edits Tick P s = []
ruled_edits (Begin l d) P s = []
ruled_edits (Read l n x) P s = read_ruled l n x P s
ruled_edits (Write l n x v) P s = write_ruled l n x v P s
ruled_edits (Commit l n) P s = commit_ruled l n P s
ruled_edits (Abort l n) P s = abort_ruled l n P s

-- from s to t, with answer r: those of one step of the rules; order and placement stay, a refusal leaves the whole value, and the shelf
-- comes from the one before by the ruled edits
pub record Sends {O P S : Type 0} (order : O → Order) (placing : P → Placing) (items : S → List Item) (edits : S → ℕ → Edit → S → Type 0)
    (call : Call) (s t : Scheduler O P S) (r : Answer) : Type 0 where
  pub answer : r ≡ (step (parts_of order placing s) (state_of items s) call).0
  pub after : state_of items t ≡ (step (parts_of order placing s) (state_of items s) call).1
  pub order_stays : t.order ≡ s.order
  pub placement_stays : t.placement ≡ s.placement
  pub refused : (e : Refusal) → r ≡ Err e → t ≡ s
  pub traced : Traced items edits s.shelf (ruled_edits call (parts_of order placing s) (state_of items s)) t.shelf
