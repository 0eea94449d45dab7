-- Marks joined one by one are the marks of a row.
use Rattle.std.proofs.Common.{◌≡◌, ℕ, zero, suc, List, [], ◌∷◌, ◌++◌, map, Bor, refl, add-one, sym, ap, ap₂, ◌∙◌, append-nil, arith}
use Rattle.std.proofs.lemmas.List.Concat.{flat_map-append}
use Rattle.std.proofs.lemmas.List.FromFn.{map-range_with_len_more}
use Rattle.std.specs.List.{flat_map, range_with_len}
use Rattle.orders.specs.Orders.{Order}
use Rattle.showing.specs.Charts.{mark, marks}

-- texts behind references, joined
pub texts_joined : (xs : List (Bor (List ℕ))) → flat_map (λ x. x.now) xs ≡ flat_map (λ text. text) (map (λ x. x.now) xs)
texts_joined [] = refl
texts_joined (x ∷ xs) = ap (λ ys. x.now ++ ys) (texts_joined xs)

pub marks_joined : (o : Order) (a n : ℕ) → flat_map (λ text. text) (map (mark o a) (range_with_len 0 n)) ≡ marks o a n
marks_joined o a zero = refl
marks_joined o a (suc n) =
    ap (λ k. flat_map (λ text. text) (map (mark o a) (range_with_len 0 k))) (sym (add-one n))
    ∙ ap (flat_map (λ text. text)) (map-range_with_len_more (mark o a) 0 n n (omega arith))
    ∙ flat_map-append (λ text. text) (map (mark o a) (range_with_len 0 n)) (mark o a n ∷ [])
    ∙ ap₂ (λ xs ys. xs ++ ys) (marks_joined o a n) (append-nil (mark o a n))
