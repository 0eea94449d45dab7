use Rattle.std.proofs.Common.{take}
use Rattle.runs.specs.Running.{Ran}
use Rattle.runs.proofs.running.run_all.Given as goal

-- the calls so far have run
abbrev pub invariant-loop-i : goal.invariant-loop-i
invariant-loop-i g l =
    Ran g.O.LevelOrder.meaning g.P.Placement.meaning g.S.Shelf.items (take l.i l.calls) l.initial.scheduler l.scheduler l.initial.answers l.answers
