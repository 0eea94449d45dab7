use Rattle.std.proofs.Common.{◌≡◌, rules, tests}
use Rattle.orders.proofs.Every.{every_from_all}
use Rattle.orders.specs.Orders.{every, transitive_at}
use Rattle.orders.specs.Tabled.{relation_order}
use Rattle.orders.proofs.table.Relation.lawful_pair.Goals as goal

pub returns-then-first-second : goal.returns-then-first-second
returns-then-first-second c =
    let r = c.args.self.now in
    let triples : c.all.result ≡ every r.count (transitive_at (relation_order r) c.args.first c.args.second) =
    every_from_all _ r.count _ _ c.all.result c.all.ensures.ran (λ x b q k. search (rules, tests)) in
    search rules
