use Rattle.std.proofs.Common.{◌≡◌}
use Rattle.shelves.specs.Items.{row_of}
use Rattle.image.proofs.Filled.{filled_to}
use Rattle.image.proofs.layout.copy.CopiedRows.places.Given as goal

abbrev pub invariant-loop-place : goal.invariant-loop-place
invariant-loop-place g l = l.places ≡ filled_to (row_of (g.S.Shelf.items l.self.shelf.now) l.item) l.place
