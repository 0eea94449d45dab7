use Rattle.std.proofs.Common.{rules, length, refl, ap, ◌∙◌, arith}
use Rattle.std.proofs.lemmas.Iterator.{YieldsList-from_range}
use Rattle.image.specs.Laid.{laid_answer}
use Rattle.image.proofs.Numbered.{number_fault, first_item}
use Rattle.image.proofs.Tried.{first_from_try_for_each}
use Rattle.image.proofs.layout.fitting.Fitting.check_items.Goals as goal

pub returns : goal.returns
returns g c =
    let items = g.R.Rows.items c.args.self.now.rows.now in
    first_from_try_for_each (number_fault items) _ _ _ c.try_for_each.ensures.ran
    (YieldsList-from_range 0 c.count.result (length items) refl (omega (arith, c.count.ensures))) (λ x w q k. search rules)
    ∙ ap laid_answer (first_item items)
