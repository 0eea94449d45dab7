use Rattle.std.proofs.Common.{◌≡◌, true, false, ap, ◌∙◌, rules, tests}
use Rattle.std.proofs.lemmas.Iterator.{first_from_Range}
use Rattle.rules.specs.Starts.{fits_order}
use Rattle.steps.specs.Checks.{checked}
use Rattle.steps.specs.Traces.{item_at}
use Rattle.steps.proofs.Found.{unfit_found}
use Rattle.steps.proofs.fit.check.Goals as goal

pub returns : goal.returns
returns g c =
    let o = g.O.LevelOrder.meaning c.args.order.now in
    let its = g.S.Shelf.items c.args.shelf.now in
    let same = unfit_found o its c.count.result c.count.ensures c.find.result
    (first_from_Range _ _ _ c.find.result (λ x. fits_order o (item_at its x) ≡ false) (λ x. fits_order o (item_at its x) ≡ true) c.find.ensures.ran
    (λ x q k. search (rules, tests)) (λ x q k. search (rules, tests))) in
    let answer : c.map_or.result ≡ checked c.find.result = search rules in
    answer ∙ ap checked same
