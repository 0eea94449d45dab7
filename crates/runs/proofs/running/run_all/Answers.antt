use Rattle.std.proofs.Common.{arith}
use Rattle.runs.proofs.Stepwise.{ran_more}
use Rattle.runs.proofs.running.run_all.Goals as goal

pub loop-i-preserved : goal.loop-i-preserved
loop-i-preserved g c =
    ran_more g.O.LevelOrder.meaning g.P.Placement.meaning g.S.Shelf.items g.S.Shelf.edits c.args.calls.now c.loop-i.i
    c.args.scheduler.now c.loop-i.scheduler c.send.new.scheduler c.args.answers.now c.loop-i.answers c.send.result
    (omega arith) (omega arith) c.loop-i.invariant c.send.ensures
