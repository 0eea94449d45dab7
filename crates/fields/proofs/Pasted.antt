-- One paste after another, and what stands where afterwards. Assumes nothing.
use Rattle.std.proofs.Common.{◌≡◌, ℕ, suc, ◌+◌, ◌-◌, ◌*◌, ◌/◌, ◌%◌, ◌^◌, ◌<◌, ◌≤◌, true, false, List, [], ◌∷◌, ◌++◌, length, get_or, take, drop, set, sym, refl, ap, ◌∙◌, ap₂, add-zero, arith}
use Rattle.std.specs.Int.{w32, w64, to_le_bytes}
use Rattle.std.proofs.lemmas.List.Edits.{sets-eq}
use Rattle.std.proofs.lemmas.List.{length-append, length-take-le, length-drop, append_assoc, take-append-drop, take_more, flat_map_more, take_at, drop_at, drop-drop, get_or_append_left, get_or-append_right, get_or-take, get_or-drop}
use Rattle.std.proofs.lemmas.Bool.{cond-true, cond-false, le-leb, lt-leb}
use Rattle.shelves.specs.declared.version.Version.{Version}
use Rattle.fields.specs.Written.{bytes32, bytes64, version_bytes, row_bytes, pasted, has_room, written}

module _ (bs : List ℕ) (at : ℕ) (ds : List ℕ) (room : at + length ds ≤ length bs) where
  pub length_pasted : length (pasted bs at ds) ≡ length bs
  length_pasted =
      length-append (take at bs) (ds ++ drop (at + length ds) bs)
      ∙ omega (arith, length-take-le at bs (omega arith), length-append ds (drop (at + length ds) bs), length-drop (at + length ds) bs)

  front : length (take at bs) ≡ at
  front = length-take-le at bs (omega arith)

  pub before_pasted : (k : ℕ) → k < at → get_or (pasted bs at ds) k 0 ≡ get_or bs k 0
  before_pasted k h =
      get_or_append_left (take at bs) (ds ++ drop (at + length ds) bs) 0 k (omega (arith, front)) ∙ get_or-take at bs k 0 h

  pub in_pasted : (k : ℕ) → k < length ds → get_or (pasted bs at ds) (at + k) 0 ≡ get_or ds k 0
  in_pasted k h =
      let e : at + k - at ≡ k = omega arith in
      get_or-append_right (take at bs) (ds ++ drop (at + length ds) bs) at (at + k) 0 front (omega arith)
      ∙ ap (λ j. get_or (ds ++ drop (at + length ds) bs) j 0) e
      ∙ get_or_append_left ds (drop (at + length ds) bs) 0 k h

  pub behind_pasted : (k : ℕ) → at + length ds ≤ k → get_or (pasted bs at ds) k 0 ≡ get_or bs k 0
  behind_pasted k h =
      let e : at + length ds + (k - at - length ds) ≡ k = omega arith in
      get_or-append_right (take at bs) (ds ++ drop (at + length ds) bs) at k 0 front (omega arith)
      ∙ get_or-append_right ds (drop (at + length ds) bs) (length ds) (k - at) 0 (omega arith) (omega arith)
      ∙ get_or-drop (at + length ds) bs (k - at - length ds) 0
      ∙ ap (λ j. get_or bs j 0) e

  -- what comes right behind goes into one paste
  pub then_pasted : (es : List ℕ) → at + length ds + length es ≤ length bs → pasted (pasted bs at ds) (at + length ds) es ≡ pasted bs at (ds ++ es)
  then_pasted es more =
      let whole : take at bs ++ (ds ++ drop (at + length ds) bs) ≡ (take at bs ++ ds) ++ drop (at + length ds) bs = sym (append_assoc (take at bs) ds (drop (at + length ds) bs)) in
      let long : length (take at bs ++ ds) ≡ at + length ds = length-append (take at bs) ds ∙ ap (λ n. n + length ds) front in
      let head : take (at + length ds) (pasted bs at ds) ≡ take at bs ++ ds =
      ap (take (at + length ds)) whole ∙ take_at (take at bs ++ ds) (drop (at + length ds) bs) (at + length ds) long in
      let mid : drop (at + length ds) (pasted bs at ds) ≡ drop (at + length ds) bs =
      ap (drop (at + length ds)) whole ∙ drop_at (take at bs ++ ds) (drop (at + length ds) bs) (at + length ds) long in
      let tail : drop (at + length ds + length es) (pasted bs at ds) ≡ drop (at + length ds + length es) bs =
      sym (drop-drop (length es) (at + length ds) (pasted bs at ds)) ∙ ap (drop (length es)) mid ∙ drop-drop (length es) (at + length ds) bs in
      let sum : at + length ds + length es ≡ at + length (ds ++ es) = omega (arith, length-append ds es) in
      ap₂ (λ x y. x ++ (es ++ y)) head tail
      ∙ append_assoc (take at bs) ds (es ++ drop (at + length ds + length es) bs)
      ∙ ap (λ x. take at bs ++ x) (sym (append_assoc ds es (drop (at + length ds + length es) bs)))
      ∙ ap (λ n. take at bs ++ ((ds ++ es) ++ drop n bs)) sum

pub two_sets : (bs : List ℕ) (at a b : ℕ) → at + 2 ≤ length bs → set (set bs at a) (at + 1) b ≡ pasted bs at (a ∷ b ∷ [])
two_sets bs at a b room =
    let e : at + 1 ≡ suc at = omega arith in
    ap (λ n. set (set bs at a) n b) e ∙ sets-eq (a ∷ b ∷ []) bs at (omega arith) ∙ append_assoc (take at bs) (a ∷ b ∷ []) (drop (at + 2) bs)

pub none_pasted : (bs : List ℕ) (at : ℕ) → pasted bs at [] ≡ bs
none_pasted bs at = ap (λ n. take at bs ++ drop n bs) (add-zero at) ∙ take-append-drop at bs

pub length_row_bytes : (vs : List Version) → length (row_bytes vs) ≡ 24 * length vs
length_row_bytes [] = refl
length_row_bytes (v ∷ vs) = length-append (version_bytes v) (row_bytes vs) ∙ omega (arith, length_row_bytes vs)

-- one version more of a row
pub row_pasted_more : (bs : List ℕ) (start j : ℕ) (vs : List Version) (d : Version) → start + 24 * length vs ≤ length bs → j < length vs
    → pasted (pasted bs start (row_bytes (take j vs))) (start + 24 * j) (version_bytes (get_or vs j d)) ≡ pasted bs start (row_bytes (take (j + 1) vs))
row_pasted_more bs start j vs d room h =
    let n : length (row_bytes (take j vs)) ≡ 24 * j = length_row_bytes (take j vs) ∙ ap (λ m. 24 * m) (length-take-le j vs (omega arith)) in
    ap (λ m. pasted (pasted bs start (row_bytes (take j vs))) (start + m) (version_bytes (get_or vs j d))) (sym n)
    ∙ then_pasted bs start (row_bytes (take j vs)) (omega arith) (version_bytes (get_or vs j d)) (omega arith)
    ∙ ap (pasted bs start) (flat_map_more version_bytes [] (take j vs) (get_or vs j d) ∙ ap row_bytes (sym (take_more vs j d h)))

-- what is to be written, where it fits and where not
pub has_room_true : (bs : List ℕ) (at : ℕ) (ds : List ℕ) → at + length ds ≤ length bs → has_room bs at ds ≡ true
has_room_true bs at ds h = le-leb (at + length ds) (length bs) h

pub has_room_false : (bs : List ℕ) (at : ℕ) (ds : List ℕ) → length bs < at + length ds → has_room bs at ds ≡ false
has_room_false bs at ds h = lt-leb (at + length ds) (length bs) h

pub written_if_room : (bs : List ℕ) (at : ℕ) (ds : List ℕ) → at + length ds ≤ length bs → written bs at ds ≡ pasted bs at ds
written_if_room bs at ds h = cond-true (has_room bs at ds) (pasted bs at ds) bs (has_room_true bs at ds h)

pub written_if_none : (bs : List ℕ) (at : ℕ) (ds : List ℕ) → length bs < at + length ds → written bs at ds ≡ bs
written_if_none bs at ds h = cond-false (has_room bs at ds) (pasted bs at ds) bs (has_room_false bs at ds h)

-- the library's digits of a number
pub le32 : (x : ℕ) → to_le_bytes w32 x ≡ bytes32 x
le32 x =
    let b : x / 256 ^ 1 % 256 ≡ x / 256 % 256 = omega arith in
    let c : x / 256 ^ 2 % 256 ≡ x / 256 / 256 % 256 = omega arith in
    let d : x / 256 ^ 3 % 256 ≡ x / 256 / 256 / 256 % 256 = omega arith in
    λ i. x % 256 ∷ b i ∷ c i ∷ d i ∷ []

pub le64 : (x : ℕ) → to_le_bytes w64 x ≡ bytes64 x
le64 x =
    let low : ℕ = x % 4294967296 in
    let high : ℕ = x / 4294967296 in
    let a : x % 256 ≡ low % 256 = omega arith in
    let b : x / 256 ^ 1 % 256 ≡ low / 256 % 256 = omega arith in
    let c : x / 256 ^ 2 % 256 ≡ low / 256 / 256 % 256 = omega arith in
    let d : x / 256 ^ 3 % 256 ≡ low / 256 / 256 / 256 % 256 = omega arith in
    let e : x / 256 ^ 4 % 256 ≡ high % 256 = omega arith in
    let f : x / 256 ^ 5 % 256 ≡ high / 256 % 256 = omega arith in
    let g : x / 256 ^ 6 % 256 ≡ high / 256 / 256 % 256 = omega arith in
    let h : x / 256 ^ 7 % 256 ≡ high / 256 / 256 / 256 % 256 = omega arith in
    λ i. a i ∷ b i ∷ c i ∷ d i ∷ e i ∷ f i ∷ g i ∷ h i ∷ []

-- one version more of a row that fits
pub row_written_more : (bs : List ℕ) (start j : ℕ) (vs : List Version) (d : Version) → start + 24 * length vs ≤ length bs → j < length vs
    → written (pasted bs start (row_bytes (take j vs))) (start + 24 * j) (version_bytes (get_or vs j d)) ≡ pasted bs start (row_bytes (take (j + 1) vs))
row_written_more bs start j vs d room h =
    let n : length (row_bytes (take j vs)) ≡ 24 * j = length_row_bytes (take j vs) ∙ ap (λ m. 24 * m) (length-take-le j vs (omega arith)) in
    let long = length_pasted bs start (row_bytes (take j vs)) (omega arith) in
    written_if_room (pasted bs start (row_bytes (take j vs))) (start + 24 * j) (version_bytes (get_or vs j d)) (omega arith) ∙ row_pasted_more bs start j vs d room h
