-- How items stand in bytes: little-endian, an 8-byte head, two bytes for each item, then eight places of 24 bytes for
-- each item. Assumes nothing.
use Rattle.std.specs.Prelude.{◌≡◌, ℕ, ◌+◌, ◌*◌, ◌<◌, ◌≤◌, List, map, length}
use Rattle.std.specs.List.{range_with_len}
use Rattle.shelves.specs.Items.{Item}
use Rattle.shelves.specs.Rows.{RowRule}
use Rattle.shelves.specs.declared.version.Version.{Version}
use Rattle.fields.specs.Fields.{byte, field32, version_at}

abbrev pub item_count : List ℕ → ℕ
item_count bs = field32 bs 0

-- the length of all bytes of k items
abbrev pub whole : ℕ → ℕ
whole k = 8 + 194 * k

abbrev pub level_at : List ℕ → ℕ → ℕ
level_at bs i = byte bs (8 + 2 * i)

-- how many versions item i has
abbrev pub used_at : List ℕ → ℕ → ℕ
used_at bs i = byte bs (9 + 2 * i)

-- where item i's first place begins
abbrev pub row_start : List ℕ → ℕ → ℕ
row_start bs i = 8 + 2 * item_count bs + 192 * i

abbrev pub row_at : List ℕ → ℕ → ℕ → List Version
row_at bs at c = map (λ j. version_at bs (at + 24 * j)) (range_with_len 0 c)

abbrev pub item_at : List ℕ → ℕ → Item
item_at bs i = record { level = level_at bs i; row = row_at bs (row_start bs i) (used_at bs i) }

abbrev pub image_items : List ℕ → List Item
image_items bs = map (item_at bs) (range_with_len 0 (item_count bs))

-- an item of an image: a level up to 15, states 0 and 1, and a row that keeps the rule
pub record ItemFits (bs : List ℕ) (i : ℕ) : Type 0 where
  pub level : level_at bs i ≤ 15
  pub states : (j : ℕ) → j < used_at bs i → field32 bs (row_start bs i + 24 * j + 12) ≤ 1
  pub rule : RowRule (item_at bs i).row

-- bytes are an image
pub record IsImage (bs : List ℕ) : Type 0 where
  pub some : 1 ≤ item_count bs
  pub few : item_count bs ≤ 4096
  pub length_field : field32 bs 4 ≡ whole (item_count bs)
  pub length_exact : length bs ≡ whole (item_count bs)
  pub items : (i : ℕ) → i < item_count bs → ItemFits bs i
