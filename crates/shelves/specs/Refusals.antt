-- The refusals of whoever fills a shelf. Assumes nothing.
use Rattle.std.specs.Prelude.{ℕ}
use Rattle.shelves.specs.declared.refusal.ShelfRefusal.{ShelfRefusal}
use Rattle.shelves.specs.declared.refusal.ShelfRefusal.TheVariants.{DrawerFull}

-- the number under which a refusal is known outside
abbrev pub number : ShelfRefusal → ℕ
number DrawerFull = 3
