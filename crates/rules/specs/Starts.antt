-- What the check accepts, and where runs start. Assumes nothing.
use Rattle.std.specs.Prelude.{◌≡◌, ℕ, ◌+◌, Bool, false, cond, not, ◌&&◌, List, [], ◌∷◌, replicate, is_some, Some, None, Option, ◌==◌, nat_lt}
use Rattle.orders.specs.Orders.{Order, PartialOrder}
use Rattle.placements.specs.Placings.{Placing, Within}
use Rattle.placements.specs.declared.entry.Entry.{Entry}
use Rattle.shelves.specs.Items.{Item, ShelfLaws}
use Rattle.shelves.specs.Rows.{is_committed}
use Rattle.shelves.specs.declared.version.Version.{Version}
use Rattle.tables.specs.Tables.{empty_table}
use Rattle.rules.specs.States.{Parts, State}

-- one committed version with number, stamp and mark 0
abbrev pub is_first : List Version → Bool
is_first [] = false
is_first (v ∷ w ∷ vs) = false
is_first (v ∷ []) = is_committed v.state && (v.number == 0 && (v.stamp == 0 && v.mark == 0))

-- the item's level is one of the order's, and its row is a first version
abbrev pub fits_order : Order → Item → Bool
fits_order o it = nat_lt it.level o.levels && is_first it.row

-- the first item, from x on, that does not fit
abbrev pub unfit_from : Order → ℕ → List Item → Option ℕ
unfit_from o x [] = None
unfit_from o x (it ∷ its) = cond (fits_order o it) (unfit_from o (x + 1) its) (Some x)

-- what the check finds: the first unfit item
abbrev pub unfit : Order → List Item → Option ℕ
unfit o its = unfit_from o 0 its

-- clock 1 and empty tables; sound if the check found nothing
abbrev pub start : Order → List Item → State
start o its = record { sound = not (is_some (unfit o its)); clock = 1; tables = replicate 16 empty_table; items = its }

-- every answer of the placement lies within the bounds of its question
abbrev pub Bounded : Placing → Type 0
Bounded p = (d lo hi : ℕ) (es : List Entry) → Within lo hi (p d lo hi es)

-- parts that keep their laws
pub record Lawful (P : Parts) : Type 0 where
  pub order : PartialOrder P.order
  pub placing : Bounded P.placing

-- s is the state of a sound scheduler of these parts to which nothing was sent yet
pub record Start (P : Parts) (s : State) : Type 0 where
  pub lawful : Lawful P
  pub shelf : ShelfLaws s.items
  pub fit : unfit P.order s.items ≡ None
  pub fresh : s ≡ start P.order s.items
