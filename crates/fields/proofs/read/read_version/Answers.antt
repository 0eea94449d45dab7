use Rattle.std.proofs.Common.{◌≡◌, ◌+◌, ◌-◌, take, drop, ap, ◌∙◌, arith}
use Rattle.fields.specs.Fields.{version_at}
use Rattle.fields.proofs.Parts.{all_there, version_of_part}
use Rattle.fields.proofs.read.read_version.Goals as goal

pub returns-then-bytes-at-ge24 : goal.returns-then-bytes-at-ge24
returns-then-bytes-at-ge24 c =
    let bs = c.args.bytes.now in
    let at = c.args.at in
    let long : at + 24 - at ≡ 24 = omega arith in
    c.version_in.ensures
    ∙ ap (λ n. version_at (take n (drop at bs)) 0) long
    ∙ version_of_part bs (take 24 (drop at bs)) at (all_there bs at 24 (omega (arith, c.if-at-bytes.true, c.if-bytes-at-ge24.true)))

pub returns : goal.returns
returns c = c.version_in-2.ensures ∙ version_of_part c.args.bytes.now c.part-place.result c.args.at c.part-place.ensures
