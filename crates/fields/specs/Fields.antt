-- How numbers and versions stand in bytes: little-endian; bytes past the end count as 0. Assumes nothing.
use Rattle.std.specs.Prelude.{ℕ, ◌+◌, ◌*◌, List, slice_index}
use Rattle.shelves.specs.declared.version.Version.{Version}
use Rattle.shelves.specs.States.{state_of}

abbrev pub byte : List ℕ → ℕ → ℕ
byte bs at = slice_index bs at

abbrev pub field32 : List ℕ → ℕ → ℕ
field32 bs at = byte bs at + (256 * byte bs (at + 1) + (65536 * byte bs (at + 2) + 16777216 * byte bs (at + 3)))

abbrev pub field64 : List ℕ → ℕ → ℕ
field64 bs at = field32 bs at + 4294967296 * field32 bs (at + 4)

-- number, stamp, mark and state in four bytes each, the value in eight
abbrev pub version_at : List ℕ → ℕ → Version
version_at bs at = record {
  number = field32 bs at;
  stamp = field32 bs (at + 4);
  mark = field32 bs (at + 8);
  state = state_of (field32 bs (at + 12));
  value = field64 bs (at + 16);
}
