use Rattle.std.proofs.Common.{◌≡◌, ℕ, ◌<◌, length, get_or}
use Rattle.shelves.specs.Edits.{blank, place_after}
use Rattle.shelves.specs.declared.edit.Edit.TheVariants.{Insert}
use Rattle.shelves.proofs.edit.places.inserted.Given as goal

abbrev pub invariant-loop-j : goal.invariant-loop-j
invariant-loop-j l = (length l.next ≡ 8) × ((k : ℕ) → k < l.j → get_or l.next k blank ≡ place_after (Insert l.place l.version) l.places k)
