use Rattle.std.proofs.Common.{◌≡◌, drop}
use Rattle.rules.specs.Watermarks.{least}
use Rattle.choosing.proofs.watermark.least.Given as goal

abbrev pub invariant-loop-active : goal.invariant-loop-active
invariant-loop-active l = least l.low (drop l.active-index l.list) ≡ least l.clock l.list
