-- The first faulty field of bytes that are no image. Assumes nothing.
use Rattle.std.specs.Prelude.{ℕ, zero, suc, ◌+◌, ◌-◌, ◌*◌, Bool, cond, not, ◌&&◌, List, length, Some, None, Option, ◌==◌, nat_le, nat_lt}
use Rattle.shelves.specs.Rows.{any_committed}
use Rattle.fields.specs.Fields.{field32}
use Rattle.image.specs.Layout.{item_count, whole, level_at, used_at, row_start, row_at}

-- the first of two faults
abbrev pub either : Option ℕ → Option ℕ → Option ℕ
either (Some at) next = Some at
either None next = next

-- a fault at an offset, if the test finds one
abbrev pub fault_if : Bool → ℕ → Option ℕ
fault_if b at = cond b (Some at) None

-- the first fault among n numbers from a on
abbrev pub first : (ℕ → Option ℕ) → ℕ → ℕ → Option ℕ
first f a zero = None
first f a (suc n) = either (f a) (first f (a + 1) n)

-- the version at an offset, j versions from the start of its row: its state, then number and stamp after the one before
abbrev pub version_fault : List ℕ → ℕ → ℕ → Option ℕ
version_fault bs start j =
    either (fault_if (nat_lt 1 (field32 bs (start + 24 * j + 12))) (start + 24 * j + 12))
    (either (fault_if (nat_lt 0 j && nat_le (field32 bs (start + 24 * j)) (field32 bs (start + 24 * (j - 1)))) (start + 24 * j))
    (fault_if (nat_lt 0 j && nat_lt (field32 bs (start + 24 * j + 4)) (field32 bs (start + 24 * (j - 1) + 4))) (start + 24 * j + 4)))

-- the number of versions fits: 1 to 8, one of them committed
abbrev pub used_fits : List ℕ → ℕ → Bool
used_fits bs i = (nat_le 1 (used_at bs i) && nat_le (used_at bs i) 8) && any_committed (row_at bs (row_start bs i) (used_at bs i))

-- an item: its level, its number of versions, then its versions
abbrev pub item_fault : List ℕ → ℕ → Option ℕ
item_fault bs i =
    either (fault_if (nat_lt 15 (level_at bs i)) (8 + 2 * i))
    (either (fault_if (not (used_fits bs i)) (9 + 2 * i))
    (first (version_fault bs (row_start bs i)) 0 (used_at bs i)))

abbrev pub count_fits : List ℕ → Bool
count_fits bs = nat_le 8 (length bs) && (nat_le 1 (item_count bs) && nat_le (item_count bs) 4096)

abbrev pub length_fits : List ℕ → Bool
length_fits bs = field32 bs 4 == whole (item_count bs) && length bs == whole (item_count bs)

-- the number of items, the length, then item by item
abbrev pub fault : List ℕ → Option ℕ
fault bs =
    either (fault_if (not (count_fits bs)) 0)
    (either (fault_if (not (length_fits bs)) 4)
    (first (item_fault bs) 0 (item_count bs)))
