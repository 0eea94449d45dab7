-- Which version of a row is read, written over or followed. Assumes nothing.
use Rattle.std.specs.Prelude.{ℕ, ◌+◌, max, Bool, cond, not, List, [], ◌∷◌, Some, None, Option, ◌==◌, nat_le, nat_lt}
use Rattle.shelves.specs.Rows.{is_committed}
use Rattle.shelves.specs.declared.version.State.TheVariants.{Committed, Pending}
use Rattle.shelves.specs.declared.version.Version.{Version}
use Rattle.rules.specs.declared.decision.Chosen.{Chosen}

-- the last version that passes the test, from place a on, or the best so far
abbrev pub last_from : (Version → Bool) → Option Chosen → ℕ → List Version → Option Chosen
last_from p best a [] = best
last_from p best a (v ∷ vs) = last_from p (cond (p v) (Some (record { place = a; version = v })) best) (a + 1) vs

-- the last version of a row that passes the test
abbrev pub last_that : (Version → Bool) → List Version → Option Chosen
last_that p vs = last_from p None 0 vs

-- written by transaction n
abbrev pub numbered : ℕ → Version → Bool
numbered n v = v.number == n

-- with a number not above n
abbrev pub up_to : ℕ → Version → Bool
up_to n v = nat_le v.number n

-- with a number below n
abbrev pub before : ℕ → Version → Bool
before n v = nat_lt v.number n

-- with a stamp strictly below t
abbrev pub older_than : ℕ → Version → Bool
older_than t v = nat_lt v.stamp t

abbrev pub is_pending : Version → Bool
is_pending v = not (is_committed v.state)

-- its read mark at least n
abbrev pub marked : ℕ → Version → Version
marked n v = record { number = v.number; stamp = v.stamp; mark = max v.mark n; state = v.state; value = v.value }

abbrev pub with_value : ℕ → Version → Version
with_value x v = record { number = v.number; stamp = v.stamp; mark = v.mark; state = v.state; value = x }

abbrev pub committed : Version → Version
committed v = record { number = v.number; stamp = v.stamp; mark = v.mark; state = Committed; value = v.value }

-- what transaction n with stamp t writes
abbrev pub pending : ℕ → ℕ → ℕ → Version
pending n t x = record { number = n; stamp = t; mark = n; state = Pending; value = x }
