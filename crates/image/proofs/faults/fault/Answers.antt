use Rattle.std.proofs.Common.{sym, ◌∙◌}
use Rattle.image.specs.Sound.{fault_parts, fault_none}
use Rattle.image.proofs.faults.fault.Goals as goal

pub returns : goal.returns
returns c =
    let bs = c.args.bytes.now in
    let value = c.first_fault.ensures in
    record {
      value = value;
      sound = λ none. fault_parts bs (sym value ∙ none);
      complete = λ image. value ∙ fault_none bs image;
    }
