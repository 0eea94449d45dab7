-- The rule that every row of versions keeps. Assumes nothing.
use Rattle.std.specs.Prelude.{◌≡◌, ℕ, ◌<◌, ◌≤◌, Bool, true, false, ◌&&◌, ◌||◌, List, [], ◌∷◌, length, Some, nat_le, nat_lt}
use Rattle.std.specs.List.{ContainsAt as Has, slice_get}
use Rattle.shelves.specs.declared.version.State.{State}
use Rattle.shelves.specs.declared.version.State.TheVariants.{Committed, Pending}
use Rattle.shelves.specs.declared.version.Version.{Version}

abbrev pub is_committed : State → Bool
is_committed Committed = true
is_committed Pending = false

-- v may stand right before w: its number is smaller and its stamp not larger
abbrev pub goes_before : Version → Version → Bool
goes_before v w = nat_lt v.number w.number && nat_le v.stamp w.stamp

-- v may stand before the list
abbrev pub leads : Version → List Version → Bool
leads v [] = true
leads v (w ∷ ws) = goes_before v w

abbrev pub in_order : List Version → Bool
in_order [] = true
in_order (v ∷ vs) = leads v vs && in_order vs

abbrev pub any_committed : List Version → Bool
any_committed [] = false
any_committed (v ∷ vs) = is_committed v.state || any_committed vs

-- the row rule as a test: 1 to 8 versions, in order, at least one committed
abbrev pub keeps_rule : List Version → Bool
keeps_rule vs = (nat_le 1 (length vs) && nat_le (length vs) 8) && (in_order vs && any_committed vs)

-- the row rule in words
pub record RowRule (vs : List Version) : Type 0 where
  pub some : 1 ≤ length vs
  pub few : length vs ≤ 8
  pub numbers_rise : (i j : ℕ) (v w : Version) → i < j → slice_get vs i ≡ Some v → slice_get vs j ≡ Some w → v.number < w.number
  pub stamps_never_fall : (i j : ℕ) (v w : Version) → i < j → slice_get vs i ≡ Some v → slice_get vs j ≡ Some w → v.stamp ≤ w.stamp
  pub one_committed : (v : Version) × Has vs v × (v.state ≡ Committed)
