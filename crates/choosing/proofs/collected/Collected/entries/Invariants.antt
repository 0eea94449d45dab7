use Rattle.std.proofs.Common.{◌≡◌, ◌≤◌, ◌++◌, length, map, drop}
use Rattle.rules.specs.Watermarks.{entry}
use Rattle.choosing.proofs.collected.Collected.entries.Given as goal

abbrev pub invariant-loop-active : goal.invariant-loop-active
invariant-loop-active l = (l.entries ++ map entry (drop l.active-index l.active-items) ≡ map entry l.self) × (length l.entries ≤ l.active-index)
