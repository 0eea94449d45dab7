use Rattle.std.proofs.Common.{rules, ◌≡◌, ◌-◌, length, drop, take, ap, ◌∙◌, arith}
use Rattle.std.proofs.lemmas.List.{take_all, length-drop}
use Rattle.std.proofs.lemmas.Iterator.{YieldsList-from_slice, YieldsList-from_zip}
use Rattle.std.proofs.lemmas.Iterator.Consumers.{YieldsList-from_enumerate}
use Rattle.image.specs.Laid.{laid_answer}
use Rattle.image.proofs.Pairs.{pair_fault, first_pair}
use Rattle.image.proofs.Tried.{first_from_try_for_each}
use Rattle.image.proofs.layout.decide.check_versions.Goals as goal

pub returns : goal.returns
returns c =
    let vs = c.args.versions.now in
    let left : c.enumerate.result.iter.a.rest.now ≡ vs = search rules in
    let tail : c.zip.result.b.rest.now ≡ take (length vs - 1) (drop 1 vs) = c.zip.ensures.second.0 in
    let right : c.enumerate.result.iter.b.rest.now ≡ drop 1 vs =
    ap (λ z. z.b.rest.now) c.enumerate.ensures.source ∙ tail ∙ take_all (length vs - 1) (drop 1 vs) (omega (arith, length-drop 1 vs)) in
    let pairs = YieldsList-from_enumerate (YieldsList-from_zip (YieldsList-from_slice vs left) (YieldsList-from_slice (drop 1 vs) right)) c.enumerate.ensures.count in
    first_from_try_for_each (pair_fault c.args.start) _ c.try_for_each.new.self _ c.try_for_each.ensures.ran pairs (λ x w q k. search rules)
    ∙ ap laid_answer (first_pair vs c.args.start)
