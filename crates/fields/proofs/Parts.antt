-- Bytes that are read one by one, from an offset on. Assumes nothing.
use Rattle.std.proofs.Common.{◌≡◌, ℕ, zero, suc, zero-add, ◌+◌, ◌-◌, ◌<◌, ◌≤◌, ◌^◌, min, List, length, get_or, take, drop, map, sym, ap, ◌∙◌, subst, inl, inr, arith}
use denote.Param.Members.{Mut, Called}
use Rattle.std.specs.Array.{IsFromFnResult, IsFromFnResultFrom}
use Rattle.std.specs.List.{range_with_len}
use Rattle.std.proofs.lemmas.Bool.{cases_lt}
use Rattle.std.proofs.lemmas.List.{get_or_past, get_or-take, get_or-drop, length-take-le, length-drop}
use Rattle.std.proofs.lemmas.List.FromFn.{fill_by_all, get_or-map-range_with_len}
use Rattle.fields.specs.Fields.{byte, version_at}
use Rattle.fields.proofs.Decoded.{same_version}

-- an array that calls made, where each call leaves the closure as it was
module _ {F B : Type 0} (g : Mut F (ℕ × Unit {0}) B) (h : ℕ → B) (f : F) (call : (i : ℕ) (y : B) (q : F) → Called {A = ℕ × Unit {0}} g f (i, tt) y q → (q ≡ f) × (y ≡ h i)) where
  made_at : (ys : List B) (i n : ℕ) → IsFromFnResultFrom g f ys i n → (k m : ℕ) → k < n → i + k ≡ m → (d : B) → get_or ys m d ≡ h m
  made_at ys i zero r k m l e d = absurd (omega arith)
  made_at ys i (suc n) r zero m l e d =
      let is : m ≡ i = omega arith in
      ap (λ p. get_or ys p d) is ∙ r.2.1 d ∙ (call i r.1 r.0 r.3).1 ∙ ap h (sym is)
  made_at ys i (suc n) r (suc k) m l e d =
      made_at ys (i + 1) n (subst (λ q. IsFromFnResultFrom g q ys (i + 1) n) (call i r.1 r.0 r.3).0 r.4) k m (omega arith) (omega arith) d

  pub made : (ys : List B) (n : ℕ) → IsFromFnResult g f ys n → ys ≡ map h (range_with_len 0 n)
  made ys n r = fill_by_all h ys n (h 0) r.long (λ k l. made_at ys 0 n r.each k k l (omega arith) (h 0))

-- an offset that would be past all memory is past the end
pub byte_past : (bs : List ℕ) (n : ℕ) → length bs < 2 ^ 64 → byte bs (min n (2 ^ 64 - 1)) ≡ byte bs n
byte_past bs n l =
    elim (cases_lt n (2 ^ 64)) [
      | inl h ↦ let e : min n (2 ^ 64 - 1) ≡ n = omega arith in ap (byte bs) e
      | inr h ↦ let e : min n (2 ^ 64 - 1) ≡ 2 ^ 64 - 1 = omega arith in ap (byte bs) e ∙ get_or_past bs (2 ^ 64 - 1) 0 (omega arith) ∙ sym (get_or_past bs n 0 (omega arith))
    ]

-- bytes that are all there
pub all_there : (bs : List ℕ) (at n : ℕ) → at + n ≤ length bs → take n (drop at bs) ≡ map (λ k. byte bs (at + k)) (range_with_len 0 n)
all_there bs at n room =
    fill_by_all (λ k. byte bs (at + k)) (take n (drop at bs)) n 0 (length-take-le n (drop at bs) (omega (arith, length-drop at bs, room)))
    (λ k l. get_or-take n (drop at bs) k 0 l ∙ get_or-drop at bs k 0)

-- a version in its own 24 bytes
pub version_of_part : (bs ps : List ℕ) (at : ℕ) → ps ≡ map (λ k. byte bs (at + k)) (range_with_len 0 24) → version_at ps 0 ≡ version_at bs at
version_of_part bs ps at is =
    same_version ps bs 0 at
    (λ k l. ap (byte ps) (zero-add k) ∙ ap (λ xs. byte xs k) is ∙ get_or-map-range_with_len (λ j. byte bs (at + j)) 0 24 k k 0 l (zero-add k))
