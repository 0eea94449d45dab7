use Rattle.std.proofs.Common.{rules}
use Rattle.std.proofs.lemmas.Bool.Decides.{Decides-at}
use Rattle.orders.specs.Labels.{covers}
use Rattle.orders.specs.Labelled.{covers_wall_by_wall}
use Rattle.orders.proofs.label.Label.covers.Goals as goal

pub returns-then-self-other-clause-wall_by_wall : goal.returns-then-self-other-clause-wall_by_wall
returns-then-self-other-clause-wall_by_wall c =
    let a = c.args.self in
    let b = c.args.other in
    Decides-at c.includes.result (covers a b) (search rules) (covers_wall_by_wall a b)
