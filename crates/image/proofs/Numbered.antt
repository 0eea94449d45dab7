-- Items by their numbers. Assumes nothing.
use Rattle.std.proofs.Common.{◌≡◌, ℕ, zero, suc, ◌+◌, ◌<◌, List, length, get_or, drop, Option, sym, ap, ◌∙◌, arith}
use Rattle.std.specs.List.{range_with_len}
use Rattle.std.proofs.lemmas.List.{at_drop_more, at_drop_all}
use Rattle.std.proofs.lemmas.Option.{slice_get-get_or}
use Rattle.shelves.specs.Items.{Item, level_in, row_in, level_of, row_of}
use Rattle.image.specs.Faults.{either}
use Rattle.image.specs.Laid.{item_of, plain_fault, plain_faults}
use Rattle.image.proofs.Tried.{first_of}

pub item_is : (items : List Item) (i : ℕ) (d : Item) → i < length items → get_or items i d ≡ item_of items i
item_is items i d h = sym (ap (λ o. record { level = level_in o; row = row_in o }) (slice_get-get_or items i d h))

-- the fault of an item that is asked for by its number
abbrev pub number_fault : List Item → ℕ → Option ℕ
number_fault items i = plain_fault (length items) i (level_of items i) (row_of items i)

item_from : (items : List Item) (i n : ℕ) → i + n ≡ length items → first_of (number_fault items) (range_with_len i n) ≡ plain_faults (length items) i (drop i items)
item_from items i zero e = sym (at_drop_all (plain_faults (length items) i) items i (omega arith))
item_from items i (suc n) e =
    let k : ℕ = length items in
    ap (either (number_fault items i)) (item_from items (i + 1) n (omega arith))
    ∙ sym (at_drop_more (plain_faults k i) items i (item_of items i) (omega arith)
    ∙ ap (λ (it : Item). either (plain_fault k i it.level it.row) (plain_faults k (i + 1) (drop (i + 1) items))) (item_is items i (item_of items i) (omega arith)))

pub first_item : (items : List Item) → first_of (number_fault items) (range_with_len 0 (length items)) ≡ plain_faults (length items) 0 items
first_item items = item_from items 0 (length items) (omega arith)
