use Rattle.std.proofs.Common.{rules, ◌≡◌, ◌+◌, ◌-◌, ◌^◌, min, ◌∙◌, arith}
use Rattle.fields.specs.Fields.{byte}
use Rattle.fields.proofs.Parts.{made, byte_past}
use Rattle.fields.proofs.read.part.Goals as goal

pub returns : goal.returns
returns g c =
    made _ (λ k. byte c.args.bytes.now (c.args.at + k)) _
    (λ i y q e.
    let got : y ≡ byte c.args.bytes.now (min (c.args.at + i) (2 ^ 64 - 1)) = search rules in
    (search rules, got ∙ byte_past c.args.bytes.now (c.args.at + i) (omega arith)))
    c.from_fn.result g.row.N c.from_fn.ensures.items
