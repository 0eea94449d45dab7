use Rattle.std.proofs.Common.{length, drop}
use Rattle.rules.specs.Starts.{Lawful}
use Rattle.scheduler.specs.Views.{parts_of, state_of}
use Rattle.runs.proofs.Lawfully.{see_the_same}
use Rattle.runs.proofs.Stepwise.{front_answers}
use Rattle.runs.proofs.running.run_both.Goals as goal

pub returns-clause-same : goal.returns-clause-same
returns-clause-same g c =
    let l = c.args.left.now in
    let r = c.args.right.now in
    let P = parts_of g.O.LevelOrder.meaning g.P.Placement.meaning l in
    let Q = parts_of g.U.LevelOrder.meaning g.V.Placement.meaning r in
    let cs = c.args.calls.now in
    let ds = c.args.others.now in
    let lp : Lawful P = record { order = g.met.O.LevelOrder.lawful l.order; placing = g.met.P.Placement.bounded l.placement } in
    let lq : Lawful Q = record { order = g.met.U.LevelOrder.lawful r.order; placing = g.met.V.Placement.bounded r.placement } in
    let one = c.run_all.ensures in
    let two = c.run_all-2.ensures in
    see_the_same P lp (state_of g.S.Shelf.items l) _ cs _
    (front_answers P (state_of g.S.Shelf.items l) cs _ (drop (length cs) c.args.answers.now) one.answers) one.state
    Q lq (state_of g.W.Shelf.items r) _ ds _
    (front_answers Q (state_of g.W.Shelf.items r) ds _ (drop (length ds) c.args.replies.now) two.answers) two.state
