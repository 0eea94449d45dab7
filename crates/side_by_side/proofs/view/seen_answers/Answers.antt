use Rattle.std.proofs.Common.{rules, ◌∙◌}
use Rattle.std.proofs.lemmas.Iterator.{items_from_collect, YieldsList-from_slice, YieldsList-from_zip}
use Rattle.std.proofs.lemmas.Iterator.Consumers.{YieldsList-from_filter_map}
use Rattle.std.proofs.lemmas.Result.{IfOk-weaker}
use Rattle.std.specs.Bool.{then_some}
use Rattle.rules.specs.Isolation.{visible}
use Rattle.side_by_side.proofs.Seen.{seen_in_log}
use Rattle.side_by_side.proofs.view.seen_answers.Goals as goal

pub returns : goal.returns
returns g c =
    let o = g.O.LevelOrder.meaning c.args.order.now in
    IfOk-weaker c.collect.result _ _ (λ v e. e ∙ seen_in_log o c.args.level c.args.calls.now c.args.answers.now)
    (items_from_collect c.collect.result c.collect.ensures.ran
    (YieldsList-from_filter_map _ (λ p. then_some (visible o c.args.level p.0) p.1)
    (YieldsList-from_zip (YieldsList-from_slice c.args.calls.now (search rules)) (YieldsList-from_slice c.args.answers.now (search rules)))
    c.filter_map.ensures.closure (λ x r q k. (search rules, search rules))))
