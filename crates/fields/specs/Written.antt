-- What is written of numbers and versions, and all bytes afterwards. Assumes nothing.
use Rattle.std.specs.Prelude.{ℕ, ◌+◌, ◌/◌, ◌%◌, ◌<◌, Bool, cond, List, [], ◌∷◌, ◌++◌, length, take, drop, nat_le}
use Rattle.std.specs.List.{flat_map}
use Rattle.shelves.specs.declared.version.Version.{Version}
use Rattle.shelves.specs.States.{state_number}

abbrev pub bytes32 : ℕ → List ℕ
bytes32 x = x % 256 ∷ x / 256 % 256 ∷ x / 256 / 256 % 256 ∷ x / 256 / 256 / 256 % 256 ∷ []

abbrev pub bytes64 : ℕ → List ℕ
bytes64 x = bytes32 (x % 4294967296) ++ bytes32 (x / 4294967296)

abbrev pub version_bytes : Version → List ℕ
version_bytes v =
    bytes32 v.number ++ (bytes32 v.stamp ++ (bytes32 v.mark ++ (bytes32 (state_number v.state) ++ bytes64 v.value)))

abbrev pub row_bytes : List Version → List ℕ
row_bytes vs = flat_map version_bytes vs

-- bs with ds in place of what stood from an offset on
abbrev pub pasted : List ℕ → ℕ → List ℕ → List ℕ
pasted bs at ds = take at bs ++ (ds ++ drop (at + length ds) bs)

-- ds fit into bs from an offset on
abbrev pub has_room : List ℕ → ℕ → List ℕ → Bool
has_room bs at ds = nat_le (at + length ds) (length bs)

-- all bytes after ds were to be written: where they do not fit, the bytes as they were
abbrev pub written : List ℕ → ℕ → List ℕ → List ℕ
written bs at ds = cond (has_room bs at ds) (pasted bs at ds) bs

-- the numbers of a version fit their bytes
pub record VersionFits (v : Version) : Type 0 where
  pub number : v.number < 4294967296
  pub stamp : v.stamp < 4294967296
  pub mark : v.mark < 4294967296
  pub value : v.value < 18446744073709551616
