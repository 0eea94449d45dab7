use Rattle.std.proofs.Common.{◌≡◌, ◌+◌, ◌*◌, ◌≤◌, ◌++◌, length}
use Rattle.rules.specs.Watermarks.{collected}
use Rattle.choosing.specs.Reaches.{reaches}
use Rattle.choosing.proofs.reach.collect.Given as goal

abbrev pub invariant-loop-other : goal.invariant-loop-other
invariant-loop-other g l =
    let p = reaches (g.O.LevelOrder.meaning l.order) l.reach l.level in
    let levels = l.other-iterator.a in
    let rest = l.other-iterator.b.rest.now in
    (l.found ++ collected p levels.start rest ≡ collected p 0 l.tables)
    × (length l.found ≤ 8 * levels.start)
    × (levels.start + length rest ≡ 16)
    × (levels.end ≡ 16)
