-- What is asked of a version. Assumes nothing.
use Rattle.std.specs.Prelude.{ℕ, Bool, cond, Some, None, Option}
use Rattle.shelves.specs.declared.version.Version.{Version}
use Rattle.rules.specs.Choices.{numbered, up_to, before, older_than}
use Rattle.rules.specs.declared.decision.Chosen.{Chosen}
use Rattle.choosing.specs.declared.version.Wanted.{Wanted}
use Rattle.choosing.specs.declared.version.Wanted.TheVariants.{Numbered, UpTo, Before, OlderThan}

abbrev pub passes : Wanted → Version → Bool
passes (Numbered n) = numbered n
passes (UpTo n) = up_to n
passes (Before n) = before n
passes (OlderThan t) = older_than t

-- the version found at place a if it passes, otherwise the best so far
abbrev pub later : (Version → Bool) → Option Chosen → ℕ → Option Version → Option Chosen
later p best a None = best
later p best a (Some v) = cond (p v) (Some (record { place = a; version = v })) best
