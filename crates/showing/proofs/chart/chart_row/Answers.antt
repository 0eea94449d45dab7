use Rattle.std.proofs.Common.{rules, arith, ap, ◌∙◌}
use Rattle.std.proofs.lemmas.Iterator.{items_from_drains, YieldsList-from_range, YieldsList-from_map_by}
use Rattle.std.proofs.lemmas.Result.{IfOk-weaker}
use Rattle.std.specs.List.{flat_map}
use Rattle.showing.specs.Charts.{mark}
use Rattle.showing.proofs.Marks.{texts_joined, marks_joined}
use Rattle.showing.proofs.chart.chart_row.Goals as goal

pub returns : goal.returns
returns g c =
    let o = g.O.LevelOrder.meaning c.args.order.now in
    let a = c.args.level in
    let n = o.levels in
    IfOk-weaker c.collect.result _ _ (λ s p.
    p.2 ∙ texts_joined p.0
    ∙ ap (flat_map (λ text. text))
    (items_from_drains p.0 p.1
    (YieldsList-from_map_by _ (λ x. x.now) (mark o a) (YieldsList-from_range 0 n n (search rules) (omega arith)) c.map.ensures.closure (λ x r q k. (search rules, search rules))))
    ∙ marks_joined o a n) c.collect.ensures.ran
