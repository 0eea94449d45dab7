-- What is least, earliest or largest, by members alone. Assumes nothing.
use Rattle.std.specs.Prelude.{◌≡◌, ℕ, ◌≤◌, Bool, true, false, ◌⊎◌, List, Some, None, ◌≢◌, slice_index_or}
use Rattle.std.specs.List.{slice_get}
use Rattle.orders.specs.Orders.{PartialOrder}
use Rattle.shelves.specs.Rows.{keeps_rule}
use Rattle.shelves.specs.declared.version.Version.{Version}
use Rattle.tables.specs.Tables.{empty_table}
use Rattle.tables.specs.declared.place.Active.{Active}
use Rattle.tables.specs.declared.place.Place.TheVariants.{Open}
use Rattle.tables.specs.declared.table.Table.{Table}
use Rattle.rules.specs.Choices.{last_that}
use Rattle.rules.specs.Members.{In}
use Rattle.rules.specs.States.{Parts, State}
use Rattle.rules.specs.Watermarks.{collected, at_or_below, below, floor, bound, stands_before, waited_for}
use Rattle.rules.specs.declared.decision.Chosen.{Chosen}

-- the least of a clock and stamps: no larger than any, and one of them
pub record IsLeast (c : ℕ) (xs : List Active) (r : ℕ) : Type 0 where
  pub clock : r ≤ c
  pub below : (x : Active) → In x xs → r ≤ x.stamp
  pub one : (r ≡ c) ⊎ ((x : Active) × In x xs × (x.stamp ≡ r))

-- the earliest of a list: one of them, before which none stands
pub record IsEarliest (xs : List Active) (y : Active) : Type 0 where
  pub member : In y xs
  pub none_before : (z : Active) → In z xs → stands_before z y ≢ true

-- a version that stands in the row and passes, and no other that passes has a larger number
pub record LargestNumber (p : Version → Bool) (row : List Version) (c : Chosen) : Type 0 where
  pub stands : slice_get row c.place ≡ Some c.version
  pub passes : p c.version ≡ true
  pub largest : (w : Version) → In w row → p w ≡ true → w.number ≤ c.version.number

-- the collected transactions are the active ones of the levels that pass
abbrev pub CollectedAreTheActive : Type 0
CollectedAreTheActive =
    (p : ℕ → Bool) (ts : List Table) (x : Active) →
    (In x (collected p 0 ts) → (p x.level ≡ true) × In (Open x.number x.stamp) (slice_index_or ts x.level empty_table).places)
    × ((p x.level ≡ true) → In (Open x.number x.stamp) (slice_index_or ts x.level empty_table).places → In x (collected p 0 ts))

abbrev pub FloorIsLeast : Type 0
FloorIsLeast = (P : Parts) (s : State) (l : ℕ) → IsLeast s.clock (at_or_below P s l) (floor P s l)

abbrev pub BoundIsLeast : Type 0
BoundIsLeast = (P : Parts) (s : State) (l : ℕ) → IsLeast s.clock (below P s l) (bound P s l)

-- of a number that is no level both are the clock
abbrev pub NoLevelHasTheClock : Type 0
NoLevelHasTheClock =
    (P : Parts) (s : State) (l : ℕ) → PartialOrder P.order → P.order.levels ≤ l → (floor P s l ≡ s.clock) × (bound P s l ≡ s.clock)

abbrev pub WaitedForIsEarliest : Type 0
WaitedForIsEarliest = (P : Parts) (s : State) (l : ℕ) (y : Active) → waited_for P s l ≡ Some y → IsEarliest (at_or_below P s l) y

-- whatever the test asks for, the chosen version passes and none with a larger number does
abbrev pub ChoiceHasLargestNumber : Type 0
ChoiceHasLargestNumber =
    (p : Version → Bool) (row : List Version) (c : Chosen) → keeps_rule row ≡ true → last_that p row ≡ Some c → LargestNumber p row c

-- and there is none only where no version passes
abbrev pub NoChoiceWhereNonePasses : Type 0
NoChoiceWhereNonePasses = (p : Version → Bool) (row : List Version) → last_that p row ≡ None → (w : Version) → In w row → p w ≡ false
