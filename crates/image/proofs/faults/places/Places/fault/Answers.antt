use Rattle.std.proofs.Common.{rules, arith}
use Rattle.image.specs.Faults.{version_fault}
use Rattle.image.proofs.Found.{first_found}
use Rattle.image.proofs.faults.places.Places.fault.Goals as goal

pub returns : goal.returns
returns c =
    first_found _ (version_fault c.args.self.now.bytes.now c.args.self.now.start) _ (λ x r q e. search rules) _ _ c.find_map.result c.args.self.now.used (omega arith) c.find_map.ensures.ran c.find_map.ensures.runs
