use Rattle.std.proofs.Common.{◌≡◌, rules, tests}
use Rattle.orders.proofs.Every.{every_from_all}
use Rattle.orders.specs.Orders.{every, lawful_pair}
use Rattle.orders.specs.Tabled.{relation_order}
use Rattle.orders.proofs.table.Relation.lawful_level.Goals as goal

pub returns-then-dominates : goal.returns-then-dominates
returns-then-dominates c =
    let r = c.args.self.now in
    let pairs : c.all.result ≡ every r.count (lawful_pair (relation_order r) c.args.level) =
    every_from_all _ r.count _ _ c.all.result c.all.ensures.ran (λ x b q k. search (rules, tests)) in
    search rules
