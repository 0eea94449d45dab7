use Rattle.std.proofs.Common.{rules}
use Rattle.shelves.proofs.Ruled.{rule_by_test}
use Rattle.shelves.proofs.rule.keeps_rule.Goals as goal

pub returns-then-in_order-clause-exact : goal.returns-then-in_order-clause-exact
returns-then-in_order-clause-exact c = rule_by_test c.args.row.now _ (search rules)

pub returns-else-in_order-clause-exact : goal.returns-else-in_order-clause-exact
returns-else-in_order-clause-exact c = rule_by_test c.args.row.now _ (search rules)
