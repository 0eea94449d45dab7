-- What laying out rows gives: the first faulty field, or all bytes. Assumes nothing.
use Rattle.std.specs.Prelude.{◌≡◌, ℕ, ◌+◌, ◌-◌, ◌*◌, ◌≤◌, Bool, true, not, ◌&&◌, List, [], ◌∷◌, ◌++◌, map, length, replicate, is_ok, is_err, Some, None, Ok, Err, Decides, Option, Result, ◌==◌, nat_le, nat_lt}
use Rattle.std.specs.List.{flat_map, AllByRecursion}
use Rattle.shelves.specs.Edits.{blank}
use Rattle.shelves.specs.Items.{Item, level_of, row_of}
use Rattle.shelves.specs.Rows.{any_committed, RowRule}
use Rattle.shelves.specs.declared.version.Version.{Version}
use Rattle.image.specs.declared.layout.LayoutFault.{LayoutFault}
use Rattle.image.specs.declared.layout.PlainRow.{PlainRow}
use Rattle.image.specs.Faults.{either, fault_if}
use Rattle.image.specs.Layout.{whole, image_items, IsImage}
use Rattle.fields.specs.Written.{bytes32, row_bytes, pasted}

-- what a plain row means
abbrev pub plain_item : PlainRow → Item
plain_item p = record { level = p.level; row = p.versions.now }

abbrev pub plain_items : List PlainRow → List Item
plain_items ps = map plain_item ps

-- item i of a shelf
abbrev pub item_of : List Item → ℕ → Item
item_of items i = record { level = level_of items i; row = row_of items i }

-- w right behind v, at an offset: its number is above v's, its stamp not below
abbrev pub next_fault : Version → Version → ℕ → Option ℕ
next_fault v w at = either (fault_if (nat_le w.number v.number) at) (fault_if (nat_lt w.stamp v.stamp) (at + 4))

-- a list right behind v: its first version is the one to test
abbrev pub follows_fault : Version → List Version → ℕ → Option ℕ
follows_fault v [] at = None
follows_fault v (w ∷ ws) at = next_fault v w at

-- versions of which the first stands at an offset
abbrev pub versions_fault : List Version → ℕ → Option ℕ
versions_fault [] at = None
versions_fault (v ∷ vs) at = either (follows_fault v vs (at + 24)) (versions_fault vs (at + 24))

-- the number of versions fits: 1 to 8, one of them committed
abbrev pub number_fits : List Version → Bool
number_fits vs = (nat_le 1 (length vs) && nat_le (length vs) 8) && any_committed vs

-- item i of k: its level, its number of versions, then its versions
abbrev pub plain_fault : ℕ → ℕ → ℕ → List Version → Option ℕ
plain_fault k i l vs =
    either (fault_if (nat_lt 15 l) (8 + 2 * i))
    (either (fault_if (not (number_fits vs)) (9 + 2 * i))
    (versions_fault vs (8 + 2 * k + 192 * i)))

-- the items from i on, of k
abbrev pub plain_faults : ℕ → ℕ → List Item → Option ℕ
plain_faults k i [] = None
plain_faults k i (it ∷ its) = either (plain_fault k i it.level it.row) (plain_faults k (i + 1) its)

-- k items into n bytes: how many items, then how many bytes
abbrev pub head_fault : ℕ → ℕ → Option ℕ
head_fault k n =
    either (fault_if (not (nat_le 8 n && (nat_le 1 k && nat_le k 4096))) 0) (fault_if (not (n == whole k)) 4)

-- the first faulty field of these items in n bytes
abbrev pub rows_fault : List Item → ℕ → Option ℕ
rows_fault items n = either (head_fault (length items) n) (plain_faults (length items) 0 items)

-- items that can be laid out in n bytes, in words
pub record Fitting (items : List Item) (n : ℕ) : Type 0 where
  pub some : 1 ≤ length items
  pub few : length items ≤ 4096
  pub exact : n ≡ whole (length items)
  pub levels : AllByRecursion (λ it. it.level ≤ 15) items
  pub rows : AllByRecursion (λ it. RowRule it.row) items

-- eight places: a row, then zeros
abbrev pub filled : List Version → List Version
filled vs = vs ++ replicate (8 - length vs) blank

-- an item's level and number of versions
abbrev pub entry_bytes : Item → List ℕ
entry_bytes it = it.level ∷ length it.row ∷ []

-- an item's eight places
abbrev pub places_bytes : Item → List ℕ
places_bytes it = row_bytes (filled it.row)

-- how many items, and how many bytes
abbrev pub head_bytes : ℕ → List ℕ
head_bytes k = bytes32 k ++ bytes32 (whole k)

-- all bytes of an image of these items
abbrev pub laid_out : List Item → List ℕ
laid_out items = head_bytes (length items) ++ (flat_map entry_bytes items ++ flat_map places_bytes items)

-- bytes of k items, after item i was written: its level, its number of versions and its eight places
abbrev pub with_item : List ℕ → ℕ → ℕ → ℕ → ℕ → List Version → List ℕ
with_item bs k i l n places = pasted (pasted bs (8 + 2 * i) (l ∷ n ∷ [])) (8 + 2 * k + 192 * i) (row_bytes places)

-- the same from an item, with zeros in its unused places
abbrev pub item_written : List ℕ → ℕ → ℕ → Item → List ℕ
item_written bs k i it = with_item bs k i it.level (length it.row) (filled it.row)

-- the answer: a refusal with the fault's offset, if there is a fault
abbrev pub laid_answer : Option ℕ → Result (Unit {0}) LayoutFault
laid_answer None = Ok tt
laid_answer (Some at) = Err record { offset = at }

-- the bytes afterwards: at a fault as they were
abbrev pub laid_after : Option ℕ → List Item → List ℕ → List ℕ
laid_after None items bs = laid_out items
laid_after (Some at) items bs = bs

-- laying out these items: refused with the first fault's offset exactly if they do not fit, and then no byte changes;
-- otherwise the bytes are the image of exactly these items
pub record LaidOut (items : List Item) (before : List ℕ) (r : Result (Unit {0}) LayoutFault) (after : List ℕ) : Type 0 where
  pub answer : r ≡ laid_answer (rows_fault items (length before))
  pub exact : Decides (is_ok r) (Fitting items (length before))
  pub refused : is_err r ≡ true → after ≡ before
  pub written : is_ok r ≡ true → after ≡ laid_out items
  pub image : is_ok r ≡ true → IsImage after
  pub kept : is_ok r ≡ true → image_items after ≡ items
