use Rattle.std.proofs.Common.{◌≡◌, take}
use Rattle.std.specs.List.{AllByRecursion}
use Rattle.fields.specs.Written.{row_bytes, pasted, VersionFits}
use Rattle.fields.proofs.write.write_row.Given as goal

abbrev pub invariant-loop-j : goal.invariant-loop-j
invariant-loop-j l = (l.bytes ≡ pasted l.initial.bytes l.start (row_bytes (take l.j l.versions))) × AllByRecursion VersionFits (take l.j l.versions)
