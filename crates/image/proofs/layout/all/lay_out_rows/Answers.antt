use Rattle.std.proofs.Common.{rules, ◌≡◌, length, None, sym, ap, ◌∙◌}
use Rattle.image.specs.Laid.{rows_fault, laid_answer, laid_after}
use Rattle.image.proofs.Laid.{layout_promise, refused_promise}
use Rattle.image.proofs.layout.all.lay_out_rows.Goals as goal

pub returns-in_err-check : goal.returns-in_err-check
returns-in_err-check g c =
    let items = g.R.Rows.items c.args.rows.now in
    let bs = c.args.bytes.now in
    let is : c.from_residual.result ≡ laid_answer (rows_fault items (length bs)) = search rules in
    refused_promise items bs c.from_residual.result is c.from_residual.ensures.0

pub returns : goal.returns
returns g c =
    let items = g.R.Rows.items c.args.rows.now in
    let bs = c.args.bytes.now in
    let none : rows_fault items (length bs) ≡ None = search rules in
    layout_promise items bs c.write_rows.new.bytes _ (ap laid_answer (sym none)) (c.write_rows.ensures.after ∙ ap (λ o. laid_after o items bs) (sym none)) (λ _. c.write_rows.ensures.fits)
