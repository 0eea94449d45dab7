-- The places of a row, 24 bytes each, as chunks of their bytes. Assumes nothing.
use Rattle.std.proofs.Common.{◌≡◌, ℕ, zero, suc, ◌+◌, ◌*◌, ◌<◌, Bool, true, false, cond, ◌||◌, ◌==◌, List, [], ◌∷◌, ◌++◌, map, length, take, drop, sym, refl, ap, ap₂, ◌∙◌, arith}
use Rattle.std.specs.Iterator.{AlwaysYields}
use Rattle.std.specs.List.{range_with_len, list_any}
use Rattle.std.specs.Slice.Iter.{chunks_exact_rest, chunks_exact_size, chunks_exact_steps}
use Rattle.std.proofs.lemmas.List.{get_or-take, get_or-drop, length-append, length-drop}
use Rattle.std.proofs.Math.Seq.{take-append_seam, drop-append_seam}
use Rattle.shelves.specs.Rows.{is_committed, any_committed}
use Rattle.shelves.specs.declared.version.State.TheVariants.{Committed, Pending}
use Rattle.fields.specs.Fields.{byte, field32, version_at}
use Rattle.fields.proofs.Decoded.{same32}

-- the first n chunks
abbrev pub chunks : ℕ → List ℕ → List (List ℕ)
chunks zero xs = []
chunks (suc n) xs = take 24 xs ∷ chunks n (drop 24 xs)

pub chunks_come : (n : ℕ) (s : _) (xs : List ℕ) → chunks_exact_size s ≡ 24 → chunks_exact_rest s ≡ xs → length xs ≡ 24 * n
    → AlwaysYields chunks_exact_steps (λ y. y.now) s (chunks n xs)
chunks_come zero s xs size rest long =
    λ x j step.
    let here : length xs ≡ length x.now + length (chunks_exact_rest j) = ap length (sym rest ∙ step.1.0) ∙ length-append x.now (chunks_exact_rest j) in
    omega (arith, here, step.1.1, size, long)
chunks_come (suc n) s xs size rest long = (
  (λ j step. omega (arith, step.1.0, ap length rest, size, long)),
  λ x j step.
      let here : xs ≡ x.now ++ chunks_exact_rest j = sym rest ∙ step.1.0 in
      let wide : length x.now ≡ 24 = step.1.1 ∙ size in
      let first : x.now ≡ take 24 xs = sym (take-append_seam x.now (chunks_exact_rest j)) ∙ ap₂ take wide (sym here) in
      let next : chunks_exact_rest j ≡ drop 24 xs = sym (drop-append_seam x.now (chunks_exact_rest j)) ∙ ap₂ drop wide (sym here) in
      (first, chunks_come n j (drop 24 xs) (step.0 ∙ size) next (omega (arith, length-drop 24 xs, long))),
)

committed_zero : (b : Bool) → is_committed (cond b Committed Pending) ≡ b
committed_zero true = refl
committed_zero false = refl

-- one of the versions is committed exactly if a chunk has the state 0
pub committed_chunks : (bs : List ℕ) (start n a : ℕ) (xs : List ℕ) → ((k : ℕ) → k < 24 * n → byte xs k ≡ byte bs (start + 24 * a + k))
    → list_any (λ c. field32 c 12 == 0) (chunks n xs) ≡ any_committed (map (λ j. version_at bs (start + 24 * j)) (range_with_len a n))
committed_chunks bs start zero a xs same = refl
committed_chunks bs start (suc n) a xs same =
    let at = start + 24 * a in
    let state : field32 (take 24 xs) 12 ≡ field32 bs (at + 12) =
    same32 (take 24 xs) bs 12 (at + 12)
    (λ k l.
    let place : at + (12 + k) ≡ at + 12 + k = omega arith in
    get_or-take 24 xs (12 + k) 0 (omega arith) ∙ same (12 + k) (omega arith) ∙ ap (byte bs) place) in
    let rest = committed_chunks bs start n (a + 1) (drop 24 xs)
    (λ k l.
    let place : start + 24 * a + (24 + k) ≡ start + 24 * (a + 1) + k = omega arith in
    get_or-drop 24 xs k 0 ∙ same (24 + k) (omega arith) ∙ ap (byte bs) place) in
    ap₂ (λ b c. b || c) (ap (λ w. w == 0) state ∙ sym (committed_zero (field32 bs (at + 12) == 0))) rest
