-- A list that is made by number, looked at. Assumes nothing.
use Rattle.std.specs.Prelude.{◌≡◌, ℕ, ◌<◌, ◌≤◌, map, Some, None}
use Rattle.std.proofs.Common.{ap, ◌∙◌, arith}
use Rattle.std.specs.List.{range_with_len, slice_get}
use Rattle.std.proofs.lemmas.Option.{slice_get-get_or}
use Rattle.std.proofs.lemmas.List.FromFn.{length-map-range_with_len, get_or-map-range_with_len}
use Rattle.std.proofs.lemmas.Option.{slice_get_past}

-- a list that is made by number, looked at
pub nth_counted : {X : Type 0} (g : ℕ → X) (n j : ℕ) → j < n → slice_get (map g (range_with_len 0 n)) j ≡ Some (g j)
nth_counted g n j l =
    slice_get-get_or (map g (range_with_len 0 n)) j (g 0) (omega (arith, length-map-range_with_len g 0 n)) ∙ ap Some (get_or-map-range_with_len g 0 n j j (g 0) l (omega arith))

pub nth_past_counted : {X : Type 0} (g : ℕ → X) (n j : ℕ) → n ≤ j → slice_get (map g (range_with_len 0 n)) j ≡ None
nth_past_counted g n j l = slice_get_past (map g (range_with_len 0 n)) j (omega (arith, length-map-range_with_len g 0 n))
