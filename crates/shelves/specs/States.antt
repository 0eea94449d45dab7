-- The numbers under which the states of versions are known outside. Assumes nothing.
use Rattle.std.specs.Prelude.{ℕ, cond, ◌==◌, nat_le, Ok, Err, Result}
use Rattle.shelves.specs.declared.state.UnknownState.{UnknownState}
use Rattle.shelves.specs.declared.version.State.{State}
use Rattle.shelves.specs.declared.version.State.TheVariants.{Committed, Pending}

abbrev pub state_number : State → ℕ
state_number Committed = 0
state_number Pending = 1

-- any number but 0 is read as pending
abbrev pub state_of : ℕ → State
state_of x = cond (x == 0) Committed Pending

-- a number above 1 stands for no state
abbrev pub state_numbered : ℕ → Result State UnknownState
state_numbered x = cond (nat_le x 1) (Ok (state_of x)) (Err record { number = x })
