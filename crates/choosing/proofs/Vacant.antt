-- One more in its places. Assumes nothing.
use Rattle.std.proofs.Common.{◌≡◌, ℕ, suc, ◌+◌, ◌-◌, ◌<◌, ◌≤◌, List, [], ◌∷◌, ◌++◌, length, take, replicate, set, sym, ap, ap₂, ◌∙◌, arith}
use Rattle.std.proofs.lemmas.List.{length-take-le, length-append, append_assoc, append-nil, take_at, take_all}
use Rattle.std.proofs.Math.Seq.{set-append_seam}
use Rattle.choosing.specs.Places.{in_places}

-- there is room behind a list that is shorter than its places
pub room_behind : {X : Type 0} (xs ys : List X) (n : ℕ) → n ≤ 128 → length xs ≡ 128 → take n xs ≡ ys → length ys < 128 → n < 128
room_behind xs ys n few long seen short = omega (arith, length-take-le n xs (omega (arith, few, long)), ap length seen, short)

-- what stands at the first vacant place joins the list
pub placed_more : {X : Type 0} (vacant : X) (xs : List X) (n : ℕ) (x : X) → n < 128 → length xs ≡ 128 → xs ≡ in_places vacant (take n xs)
    → set xs n x ≡ in_places vacant (take (n + 1) (set xs n x))
placed_more {X} vacant xs n x lt long is =
    let t : List X = take n xs in
    let front : length t ≡ n = length-take-le n xs (omega (arith, lt, long)) in
    let left : 128 - length t ≡ suc (127 - n) = omega (arith, front, lt) in
    let rest : List X = replicate (127 - n) vacant in
    let split : xs ≡ t ++ vacant ∷ rest = is ∙ ap (λ k. t ++ replicate k vacant) left in
    let stored : set xs n x ≡ t ++ x ∷ rest = ap₂ (λ ys k. set ys k x) split (sym front) ∙ set-append_seam t vacant rest x in
    let joined : set xs n x ≡ (t ++ x ∷ []) ++ rest = stored ∙ sym (append_assoc t (x ∷ []) rest) in
    let longer : length (t ++ x ∷ []) ≡ n + 1 = length-append t (x ∷ []) ∙ ap (λ k. k + 1) front in
    let first : take (n + 1) (set xs n x) ≡ t ++ x ∷ [] = ap (take (n + 1)) joined ∙ take_at (t ++ x ∷ []) rest (n + 1) longer in
    let fewer : 127 - n ≡ 128 - length (t ++ x ∷ []) = omega (arith, longer, lt) in
    joined ∙ ap (λ k. (t ++ x ∷ []) ++ replicate k vacant) fewer ∙ ap (in_places vacant) (sym first)

-- a list that fills its places
pub all_placed : {X : Type 0} (vacant : X) (xs : List X) → length xs ≡ 128 → xs ≡ in_places vacant (take 128 xs)
all_placed vacant xs full =
    let all : take 128 xs ≡ xs = take_all 128 xs (omega (arith, full)) in
    let none : 128 - length xs ≡ 0 = omega (arith, full) in
    sym (append-nil xs) ∙ ap (λ k. xs ++ replicate k vacant) (sym none) ∙ ap (in_places vacant) (sym all)
