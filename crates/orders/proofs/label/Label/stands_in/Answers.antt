use Rattle.std.proofs.Common.{◌∙◌}
use Rattle.orders.proofs.Labels.{holds_any}
use Rattle.orders.proofs.label.Label.stands_in.Goals as goal

pub returns-clause-value : goal.returns-clause-value
returns-clause-value c = c.contains.ensures.value ∙ holds_any c.args.labels.now c.args.self
