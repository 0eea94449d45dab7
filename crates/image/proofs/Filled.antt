-- Eight places that are filled with a row. Assumes nothing.
use Rattle.std.proofs.Common.{◌≡◌, ℕ, zero, suc, ◌+◌, ◌-◌, ◌<◌, ◌≤◌, true, List, [], ◌∷◌, ◌++◌, length, get_or, take, set, replicate, unwrap_or, refl, sym, ap, ◌∙◌, inl, inr, arith}
use Rattle.std.specs.List.{slice_get}
use Rattle.std.proofs.ByRecursion.{All-get_or}
use Rattle.std.proofs.lemmas.Bool.{cases_lt}
use Rattle.std.proofs.lemmas.List.{ext_get_or, append_assoc, length-take-le, set_at, take_all, take_at, take_more}
use Rattle.std.proofs.lemmas.Option.{slice_get_past, unwrap_or-slice_get}
use Rattle.shelves.specs.Edits.{blank}
use Rattle.shelves.specs.Items.{Item, ShelfLaws, row_in, row_of}
use Rattle.shelves.specs.Rows.{keeps_rule}
use Rattle.shelves.specs.declared.version.Version.{Version}
use Rattle.shelves.proofs.Ruled.{rule_decides}
use Rattle.image.specs.Laid.{item_of, filled}
use Rattle.image.proofs.Laying.{length_filled}
use Rattle.image.proofs.Numbered.{item_is}

-- behind a row stand zeros
behind_row : (vs : List Version) (n k : ℕ) → get_or (vs ++ replicate n blank) k blank ≡ get_or vs k blank
behind_row [] zero k = refl
behind_row [] (suc n) zero = refl
behind_row [] (suc n) (suc k) = behind_row [] n k
behind_row (v ∷ vs) n zero = refl
behind_row (v ∷ vs) n (suc k) = behind_row vs n k

-- eight versions that were looked for, or zeros
pub filled_by : (vs ps : List Version) → length vs ≤ 8 → length ps ≡ 8 → ((k : ℕ) → k < 8 → get_or ps k blank ≡ unwrap_or (slice_get vs k) blank) → ps ≡ filled vs
filled_by vs ps few long each =
    ext_get_or blank ps (filled vs) (long ∙ sym (length_filled vs few))
    (λ k l. each k (omega (arith, long)) ∙ unwrap_or-slice_get vs k blank ∙ sym (behind_row vs (8 - length vs) k))

-- eight places after j versions of a row
abbrev pub filled_to : List Version → ℕ → List Version
filled_to vs j = take j vs ++ replicate (8 - j) blank

pub filled_more : (vs : List Version) (j : ℕ) → j < length vs → length vs ≤ 8 → set (filled_to vs j) j (get_or vs j blank) ≡ filled_to vs (j + 1)
filled_more vs j h few =
    let v : Version = get_or vs j blank in
    let less : 8 - j ≡ suc (8 - (j + 1)) = omega arith in
    ap (λ n. set (take j vs ++ replicate n blank) j v) less
    ∙ set_at (take j vs) blank (replicate (8 - (j + 1)) blank) v j (length-take-le j vs (omega arith))
    ∙ sym (append_assoc (take j vs) (v ∷ []) (replicate (8 - (j + 1)) blank))
    ∙ ap (λ ws. ws ++ replicate (8 - (j + 1)) blank) (sym (take_more vs j blank h))

pub filled_all : (vs : List Version) (j : ℕ) → j ≡ length vs → filled_to vs j ≡ filled vs
filled_all vs j e =
    ap (λ ws. ws ++ replicate (8 - j) blank) (take_all j vs (omega arith)) ∙ ap (λ n. vs ++ replicate (8 - n) blank) e

-- what stands in them is the row
pub filled_front : (vs : List Version) → take (length vs) (filled vs) ≡ vs
filled_front vs = take_at vs (replicate (8 - length vs) blank) (length vs) refl

-- a row of a shelf has no more versions than there are places
pub row_short : (items : List Item) (i : ℕ) → ShelfLaws items → length (row_of items i) ≤ 8
row_short items i laws =
    elim (cases_lt i (length items)) [
      | inl h ↦
          let kept = All-get_or (λ (it : Item). keeps_rule it.row ≡ true) items i (item_of items i) h laws.ruled in
          omega (arith, ap (λ it. length it.row) (item_is items i (item_of items i) h), ((rule_decides (get_or items i (item_of items i)).row).0 kept).few)
      | inr h ↦ omega (arith, ap (λ o. length (row_in o)) (slice_get_past items i h))
    ]
