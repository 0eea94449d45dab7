use Rattle.steps.proofs.Ending.{Ending}
use Rattle.steps.proofs.end.end_items.Given as goal

abbrev pub invariant-loop-item : goal.invariant-loop-item
invariant-loop-item g l = Ending g.S.Shelf.items g.S.Shelf.edits l.end l.transaction l.initial.shelf l.item l.shelf
