-- The drawer and the edits that are shown. Assumes nothing.
use Rattle.std.specs.Prelude.{ℕ, List, [], ◌∷◌}
use Rattle.shelves.specs.Items.{Item, first_item, items_after}
use Rattle.shelves.specs.declared.edit.Edit.{Edit}
use Rattle.shelves.specs.declared.edit.Edit.TheVariants.{Insert, Remove}
use Rattle.shelves.specs.declared.version.State.TheVariants.{Pending}
use Rattle.shelves.specs.declared.version.Version.{Version}

-- an item at level 0 with the value 100, and one at level 3 with the value 300
abbrev pub two_items : List Item
two_items = first_item 0 100 ∷ first_item 3 300 ∷ []

-- a pending version that only its writer has read
abbrev pub pending : ℕ → ℕ → ℕ → Version
pending number stamp value = record { number = number; stamp = stamp; mark = number; state = Pending; value = value }

-- the edits, each with the item that it is of
abbrev pub edits_shown : List (ℕ × Edit)
edits_shown =
    (0, Insert 1 (pending 2 3 22))
    ∷ (0, Insert 1 (pending 1 3 11))
    ∷ (0, Insert 0 (pending 3 3 33))
    ∷ (0, Remove 0)
    ∷ (0, Remove 1)
    ∷ (9, Remove 0)
    ∷ []

-- the items after edits, one after the other
abbrev pub items_after_all : List Item → List (ℕ × Edit) → List Item
items_after_all items [] = items
items_after_all items (e ∷ es) = items_after_all (items_after items e.0 e.1) es
