use Rattle.std.proofs.Common.{rules}
use Rattle.orders.specs.Labelled.{distinct_stored}
use Rattle.orders.proofs.walls.WallsBuilder.push.Goals as goal

pub invariant_of-self-clause-unequal : goal.invariant_of-self-clause-unequal
invariant_of-self-clause-unequal c =
    let b = c.args.self.now in
    distinct_stored b.count b.labels c.args.label b.full b.unequal c.requires (search rules)
