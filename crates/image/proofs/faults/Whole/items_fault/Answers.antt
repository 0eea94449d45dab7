use Rattle.std.proofs.Common.{rules, ap, ◌∙◌, arith}
use Rattle.image.specs.Faults.{first, item_fault}
use Rattle.image.proofs.Found.{first_found}
use Rattle.image.proofs.faults.Whole.items_fault.Goals as goal

pub returns : goal.returns
returns c =
    let f = item_fault c.args.self.now.bytes.now in
    first_found _ f _ (λ x r q e. search rules) _ _ c.find_map.result c.read32.result (omega arith) c.find_map.ensures.ran c.find_map.ensures.runs
    ∙ ap (first f 0) c.read32.ensures
