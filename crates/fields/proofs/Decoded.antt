-- What was written is read again. Assumes nothing.
use Rattle.std.proofs.Common.{◌≡◌, ℕ, zero, suc, ◌+◌, ◌-◌, ◌*◌, ◌/◌, ◌%◌, ◌<◌, ◌≤◌, List, [], ◌∷◌, ◌++◌, length, get_or, sym, refl, ap, ◌∙◌, ap₂, add-zero, arith}
use Rattle.std.specs.List.{AllByRecursion}
use Rattle.std.proofs.lemmas.List.{get_or-append_right}
use Rattle.shelves.specs.Edits.{blank}
use Rattle.shelves.specs.declared.version.State.{State}
use Rattle.shelves.specs.declared.version.State.TheVariants.{Committed, Pending}
use Rattle.shelves.specs.declared.version.Version.{Version}
use Rattle.shelves.specs.States.{state_of}
use Rattle.fields.specs.Fields.{byte, field32, field64, version_at}
use Rattle.shelves.specs.States.{state_number}
use Rattle.fields.specs.Written.{version_bytes, row_bytes, VersionFits}

-- fields depend on their bytes alone
pub same32 : (bs cs : List ℕ) (a b : ℕ) → ((k : ℕ) → k < 4 → byte bs (a + k) ≡ byte cs (b + k)) → field32 bs a ≡ field32 cs b
same32 bs cs a b h =
    let h0 : byte bs a ≡ byte cs b = ap (byte bs) (sym (add-zero a)) ∙ h 0 (omega arith) ∙ ap (byte cs) (add-zero b) in
    omega (arith, h0, h 1 (omega arith), h 2 (omega arith), h 3 (omega arith))

part : (bs cs : List ℕ) (a b n m : ℕ) → ((k : ℕ) → k < n → byte bs (a + k) ≡ byte cs (b + k)) → m + 4 ≤ n → field32 bs (a + m) ≡ field32 cs (b + m)
part bs cs a b n m h l =
    same32 bs cs (a + m) (b + m)
    (λ k j.
    let e : a + m + k ≡ a + (m + k) = omega arith in
    let f : b + (m + k) ≡ b + m + k = omega arith in
    ap (byte bs) e ∙ h (m + k) (omega arith) ∙ ap (byte cs) f)

pub same_version : (bs cs : List ℕ) (a b : ℕ) → ((k : ℕ) → k < 24 → byte bs (a + k) ≡ byte cs (b + k)) → version_at bs a ≡ version_at cs b
same_version bs cs a b h =
    let n : field32 bs a ≡ field32 cs b = same32 bs cs a b (λ k l. h k (omega arith)) in
    let t = part bs cs a b 24 4 h (omega arith) in
    let r = part bs cs a b 24 8 h (omega arith) in
    let s = part bs cs a b 24 12 h (omega arith) in
    let low = part bs cs a b 24 16 h (omega arith) in
    let e : a + 16 + 4 ≡ a + 20 = omega arith in
    let f : b + 20 ≡ b + 16 + 4 = omega arith in
    let high : field32 bs (a + 16 + 4) ≡ field32 cs (b + 16 + 4) = ap (field32 bs) e ∙ part bs cs a b 24 20 h (omega arith) ∙ ap (field32 cs) f in
    λ i. record {
      number = n i;
      stamp = t i;
      mark = r i;
      state = state_of (s i);
      value = low i + 4294967296 * high i;
    }

-- a number is read as it was written
digits : (x : ℕ) → x < 4294967296 → x % 256 + (256 * (x / 256 % 256) + (65536 * (x / 256 / 256 % 256) + 16777216 * (x / 256 / 256 / 256 % 256))) ≡ x
digits x h = omega arith

-- the digits at an offset of a list are those of a number
pub record Holds32 (bs : List ℕ) (a x : ℕ) : Type 0 where
  pub d0 : byte bs a ≡ x % 256
  pub d1 : byte bs (a + 1) ≡ x / 256 % 256
  pub d2 : byte bs (a + 2) ≡ x / 256 / 256 % 256
  pub d3 : byte bs (a + 3) ≡ x / 256 / 256 / 256 % 256

pub read_back : (bs : List ℕ) (a x : ℕ) → Holds32 bs a x → x < 4294967296 → field32 bs a ≡ x
read_back bs a x h l = omega (arith, digits x l, h.d0, h.d1, h.d2, h.d3)

wide : (x : ℕ) → x < 18446744073709551616 → x % 4294967296 + 4294967296 * (x / 4294967296) ≡ x
wide x h = omega arith

state_back : (s : State) → state_of (state_number s) ≡ s
state_back Committed = refl
state_back Pending = refl

state_small : (s : State) → state_number s ≤ 1
state_small Committed = omega arith
state_small Pending = omega arith

-- a version at the front of a list is read as it was written
front_state : (v : Version) (rest : List ℕ) → field32 (version_bytes v ++ rest) 12 ≡ state_number v.state
front_state v rest =
    read_back (version_bytes v ++ rest) 12 (state_number v.state) record { d0 = refl; d1 = refl; d2 = refl; d3 = refl } (omega (arith, state_small v.state))

front_version : (v : Version) (rest : List ℕ) → VersionFits v → version_at (version_bytes v ++ rest) 0 ≡ v
front_version v rest fit =
    let n : field32 (version_bytes v ++ rest) 0 ≡ v.number = read_back (version_bytes v ++ rest) 0 v.number record { d0 = refl; d1 = refl; d2 = refl; d3 = refl } fit.number in
    let t : field32 (version_bytes v ++ rest) 4 ≡ v.stamp = read_back (version_bytes v ++ rest) 4 v.stamp record { d0 = refl; d1 = refl; d2 = refl; d3 = refl } fit.stamp in
    let r : field32 (version_bytes v ++ rest) 8 ≡ v.mark = read_back (version_bytes v ++ rest) 8 v.mark record { d0 = refl; d1 = refl; d2 = refl; d3 = refl } fit.mark in
    let s : state_of (field32 (version_bytes v ++ rest) 12) ≡ v.state = ap state_of (front_state v rest) ∙ state_back v.state in
    let low : field32 (version_bytes v ++ rest) 16 ≡ v.value % 4294967296 =
    read_back (version_bytes v ++ rest) 16 (v.value % 4294967296) record { d0 = refl; d1 = refl; d2 = refl; d3 = refl } (omega arith) in
    let high : field32 (version_bytes v ++ rest) 20 ≡ v.value / 4294967296 =
    read_back (version_bytes v ++ rest) 20 (v.value / 4294967296) record { d0 = refl; d1 = refl; d2 = refl; d3 = refl } (omega (arith, fit.value)) in
    let x : field64 (version_bytes v ++ rest) 16 ≡ v.value = ap₂ (λ a b. a + 4294967296 * b) low high ∙ wide v.value fit.value in
    λ i. record { number = n i; stamp = t i; mark = r i; state = s i; value = x i }

-- in a row, byte by byte
behind_one : (v : Version) (vs : List Version) (k : ℕ) → byte (row_bytes (v ∷ vs)) (24 + k) ≡ byte (row_bytes vs) k
behind_one v vs k =
    let e : 24 + k - 24 ≡ k = omega arith in
    get_or-append_right (version_bytes v) (row_bytes vs) 24 (24 + k) 0 refl (omega arith) ∙ ap (byte (row_bytes vs)) e

pub row_version : (vs : List Version) → AllByRecursion VersionFits vs → (j : ℕ) (d : Version) → j < length vs → version_at (row_bytes vs) (24 * j) ≡ get_or vs j d
row_version [] fit j d h = absurd (omega arith)
row_version (v ∷ vs) fit zero d h = front_version v (row_bytes vs) fit.0
row_version (v ∷ vs) fit (suc j) d h =
    same_version (row_bytes (v ∷ vs)) (row_bytes vs) (24 * suc j) (24 * j)
    (λ k l. let e : 24 * suc j + k ≡ 24 + (24 * j + k) = omega arith in ap (byte (row_bytes (v ∷ vs))) e ∙ behind_one v vs (24 * j + k))
    ∙ row_version vs fit.1 j d (omega arith)

pub row_state : (vs : List Version) (j : ℕ) → j < length vs → field32 (row_bytes vs) (24 * j + 12) ≤ 1
row_state [] j h = absurd (omega arith)
row_state (v ∷ vs) zero h = omega (arith, front_state v (row_bytes vs), state_small v.state)
row_state (v ∷ vs) (suc j) h =
    let same : field32 (row_bytes (v ∷ vs)) (24 * suc j + 12) ≡ field32 (row_bytes vs) (24 * j + 12) =
    same32 (row_bytes (v ∷ vs)) (row_bytes vs) (24 * suc j + 12) (24 * j + 12)
    (λ k l. let e : 24 * suc j + 12 + k ≡ 24 + (24 * j + 12 + k) = omega arith in ap (byte (row_bytes (v ∷ vs))) e ∙ behind_one v vs (24 * j + 12 + k)) in
    omega (arith, same, row_state vs j (omega arith))

-- what is read fits
pub read_fits : (bs : List ℕ) (a : ℕ) → ((k : ℕ) → byte bs k < 256) → VersionFits (version_at bs a)
read_fits bs a h = record {
  number = fits32 a;
  stamp = fits32 (a + 4);
  mark = fits32 (a + 8);
  value = omega (arith, fits32 (a + 16), fits32 (a + 16 + 4));
}
  where
    fits32 : (b : ℕ) → field32 bs b < 4294967296
    fits32 b = omega (arith, h b, h (b + 1), h (b + 2), h (b + 3))

pub blank_fits : VersionFits blank
blank_fits = record { number = omega arith; stamp = omega arith; mark = omega arith; value = omega arith }
