use Rattle.std.proofs.Common.{◌≡◌, ◌+◌, ◌≤◌, ◌++◌, length, drop}
use Rattle.tables.specs.Tables.{actives}
use Rattle.choosing.proofs.collected.Collected.push_places.Given as goal

abbrev pub invariant-loop-place : goal.invariant-loop-place
invariant-loop-place l =
    (l.self ++ actives l.level (drop l.place-index l.places) ≡ l.fn.self ++ actives l.level l.places)
    × (length l.self ≤ length l.fn.self + l.place-index)
