-- The first n of a longer list, looked at, changed and lengthened. Assumes nothing.
use Rattle.std.specs.Prelude.{◌≡◌, ℕ, ◌+◌, ◌<◌, ◌≤◌, List, [], ◌∷◌, ◌++◌, map, length, take, set, Some, None, slice_index_or, slice_set}
use Rattle.std.proofs.Common.{sym, ap, ◌∙◌, arith}
use Rattle.std.proofs.Math.Seq.{take-set-lt}
use Rattle.std.specs.Option.{option_map}
use Rattle.std.specs.List.{slice_get}
use Rattle.std.proofs.lemmas.Option.{slice_get-get_or, slice_get-map, slice_get_past, get_or_from_slice_get}
use Rattle.std.proofs.lemmas.List.{length-map, length-take-le, get_or-take, map-set, map_push, set-get_or, take_more_set}

pub set_same : {X : Type 0} (xs : List X) (i : ℕ) (x : X) → slice_get xs i ≡ Some x → slice_set xs i x ≡ xs
set_same xs i x h = ap (set xs i) (sym (get_or_from_slice_get xs i x x h)) ∙ set-get_or xs i x

module _ {X : Type 0} (n : ℕ) (xs : List X) (fits : n ≤ length xs) where
  pub front_at : (i : ℕ) (d : X) → i < n → slice_get (take n xs) i ≡ Some (slice_index_or xs i d)
  front_at i d h = slice_get-get_or (take n xs) i d (omega (arith, length-take-le n xs fits)) ∙ ap Some (get_or-take n xs i d h)

  pub front_past : (i : ℕ) → n ≤ i → slice_get (take n xs) i ≡ None
  front_past i h = slice_get_past (take n xs) i (omega (arith, length-take-le n xs fits))

  module _ {Y : Type 0} (f : X → Y) where
    pub length_front : length (map f (take n xs)) ≡ n
    length_front = length-map (take n xs) f ∙ length-take-le n xs fits

    pub map_at : (i : ℕ) (d : X) → i < n → slice_get (map f (take n xs)) i ≡ Some (f (slice_index_or xs i d))
    map_at i d h = slice_get-map f (take n xs) i ∙ ap (option_map f) (front_at i d h)

    pub map_past : (i : ℕ) → n ≤ i → slice_get (map f (take n xs)) i ≡ None
    map_past i h = slice_get-map f (take n xs) i ∙ ap (option_map f) (front_past i h)

    pub map_front_set : (i : ℕ) (x : X) → i < n → map f (take n (slice_set xs i x)) ≡ slice_set (map f (take n xs)) i (f x)
    map_front_set i x h = ap (map f) (take-set-lt n xs i x h) ∙ map-set f (take n xs) i x

  pub map_front_push : {Y : Type 0} (f : X → Y) (x : X) → n < length xs → map f (take (n + 1) (slice_set xs n x)) ≡ map f (take n xs) ++ f x ∷ []
  map_front_push f x h = ap (map f) (take_more_set xs n x h) ∙ map_push f (take n xs) x
