use Rattle.std.proofs.Common.{◌≡◌, drop, None}
use Rattle.rules.specs.Watermarks.{earliest}
use Rattle.choosing.proofs.watermark.earliest.Given as goal

abbrev pub invariant-loop-active : goal.invariant-loop-active
invariant-loop-active l = earliest l.best (drop l.active-index l.list) ≡ earliest None l.list
