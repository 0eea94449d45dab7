use Rattle.std.proofs.Common.{arith}
use Rattle.std.proofs.lemmas.List.FromFn.{fill_by_all}
use Rattle.shelves.specs.Edits.{blank, place_after}
use Rattle.shelves.specs.declared.edit.Edit.TheVariants.{Put}
use Rattle.shelves.proofs.edit.places.put.Goals as goal

pub returns : goal.returns
returns c =
    fill_by_all (place_after (Put c.args.place c.args.version) c.args.places.now) c.loop-j.next 8 blank c.loop-j.invariant.0
    (λ k h. c.loop-j.invariant.1 k (omega arith))
