use Rattle.std.proofs.Common.{◌≡◌, length, arith, rules}
use Rattle.std.proofs.lemmas.List.{take_all}
use Rattle.choosing.specs.Places.{nobody}
use Rattle.choosing.proofs.Vacant.{all_placed}
use Rattle.choosing.proofs.collected.CollectedFromArrayActive128.from.Goals as goal

pub invariant_of-result : goal.invariant_of-result
invariant_of-result c =
    let full : length c.args.actives ≡ 128 = search rules in
    (omega arith, full, all_placed nobody c.args.actives full)

pub returns : goal.returns
returns c =
    let full : length c.args.actives ≡ 128 = search rules in
    take_all 128 c.args.actives (omega (arith, full))
