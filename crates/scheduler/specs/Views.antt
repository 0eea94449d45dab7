-- What a scheduler stands for, and what a call does to it. Assumes nothing.
use Rattle.std.specs.Prelude.{◌≡◌, ℕ, List, Err, Result}
use Rattle.orders.specs.Orders.{Order}
use Rattle.placements.specs.Placings.{Placing}
use Rattle.shelves.specs.Items.{Item}
use Rattle.shelves.specs.declared.edit.Edit.{Edit}
use Rattle.rules.specs.States.{Parts, State, ItemEdit}
use Rattle.rules.specs.Steps.{Outcome}
use Rattle.rules.specs.declared.refusal.Refusal.{Refusal}
use Rattle.steps.specs.Traces.{Traced}
use Rattle.scheduler.specs.declared.state.Scheduler.{Scheduler}

abbrev pub parts_of : {O P S : Type 0} → (O → Order) → (P → Placing) → Scheduler O P S → Parts
parts_of order placing s = record { order = order s.order; placing = placing s.placement }

abbrev pub state_of : {O P S : Type 0} → (S → List Item) → Scheduler O P S → State
state_of items s = record { sound = s.sound; clock = s.clock; tables = s.tables; items = items s.shelf }

-- from s to t, with answer r: answer and state are those of the rules, order and placement stay, a refusal leaves the whole value,
-- and the shelf comes from the one before by the ruled list of edits
pub record Does {O P S R : Type 0} (order : O → Order) (placing : P → Placing) (items : S → List Item) (edits : S → ℕ → Edit → S → Type 0)
    (call : Parts → State → Outcome R) (ruled : Parts → State → List ItemEdit) (s t : Scheduler O P S) (r : Result R Refusal) : Type 0 where
  pub answer : r ≡ (call (parts_of order placing s) (state_of items s)).0
  pub after : state_of items t ≡ (call (parts_of order placing s) (state_of items s)).1
  pub order_stays : t.order ≡ s.order
  pub placement_stays : t.placement ≡ s.placement
  pub refused : (e : Refusal) → r ≡ Err e → t ≡ s
  pub traced : Traced items edits s.shelf (ruled (parts_of order placing s) (state_of items s)) t.shelf
