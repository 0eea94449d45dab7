use Rattle.std.proofs.Common.{sym, ap, ◌∙◌}
use Rattle.image.specs.Faults.{fault}
use Rattle.image.specs.Known.{ok_if_none}
use Rattle.image.proofs.opening.Image.open.Goals as goal

pub invariant_of-result : goal.invariant_of-result
invariant_of-result c =
    let bs = c.as_slice.ensures.value in
    record { ok = ok_if_none c.args.bytes.items (ap fault (sym bs) ∙ sym c.in-None.ensures.value) }
