use Rattle.std.proofs.Common.{◌≡◌}
use Rattle.shelves.specs.Items.{row_of}
use Rattle.image.specs.Opened.{items_of}
use Rattle.image.proofs.Filled.{filled_to}
use Rattle.image.proofs.opening.Image.row.Given as goal

abbrev pub invariant-loop-place : goal.invariant-loop-place
invariant-loop-place l = l.places ≡ filled_to (row_of (items_of l.self) l.item) l.place
