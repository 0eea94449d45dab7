use Rattle.std.proofs.Common.{rules, tests}
use Rattle.std.proofs.lemmas.Bool.Decides.{Decides-at}
use Rattle.orders.proofs.Every.{every_from_all}
use Rattle.orders.specs.Orders.{lawful_level, keeps_laws}
use Rattle.orders.specs.Tabled.{relation_order}
use Rattle.orders.specs.TabledLemmas.{passed_lawful, lawful_passes}
use Rattle.orders.proofs.table.Relation.keeps_laws.Goals as goal

pub returns-clause-value : goal.returns-clause-value
returns-clause-value c =
    every_from_all (lawful_level (relation_order c.args.self.now)) c.args.self.now.count _ _ c.all.result c.all.ensures.ran (λ x b q k. search (rules, tests))

pub returns-clause-exact : goal.returns-clause-exact
returns-clause-exact c =
    let r = c.args.self.now in
    Decides-at c.all.result (keeps_laws (relation_order r)) (returns-clause-value c) (passed_lawful r.count r.rows r.some r.few, lawful_passes r.count r.rows)
