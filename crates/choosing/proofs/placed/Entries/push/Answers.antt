use Rattle.std.proofs.Common.{◌<◌, ◌∙◌, arith}
use Rattle.std.proofs.lemmas.List.{length-set}
use Rattle.choosing.specs.Places.{no_entry}
use Rattle.choosing.proofs.Vacant.{room_behind, placed_more}
use Rattle.choosing.proofs.placed.Entries.push.Goals as goal

pub invariant_of-self : goal.invariant_of-self
invariant_of-self c =
    let x = c.self.inside in
    let ok = c.self.invariant in
    let room : x.count < 128 = room_behind x.list c.args.self.now x.count ok.0 ok.1 c.self.view_is c.requires in
    (omega (arith, room), length-set x.list x.count c.args.entry ∙ ok.1, placed_more no_entry x.list x.count c.args.entry room ok.1 ok.2)
