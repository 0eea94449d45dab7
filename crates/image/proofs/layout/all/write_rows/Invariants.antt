use Rattle.image.proofs.Laying.{LaidTo}
use Rattle.image.proofs.layout.all.write_rows.Given as goal

abbrev pub invariant-loop-item : goal.invariant-loop-item
invariant-loop-item g l = LaidTo l.initial.bytes (g.R.Rows.items l.rows.rows.now) l.item l.bytes
