-- A row written in place of one that may have been longer, with zeros in a place that came free. Assumes nothing.
use Rattle.std.proofs.Common.{◌≡◌, ℕ, ◌+◌, ◌*◌, ◌<◌, ◌≤◌, List, [], ◌∷◌, ◌++◌, length, nat_lt, sym, ap, ◌∙◌, arith}
use Rattle.std.proofs.lemmas.List.{append-nil, flat_map_more}
use Rattle.std.proofs.lemmas.Bool.{cond-true, cond-false, lt-ltb, le-ltb}
use Rattle.shelves.specs.Edits.{blank}
use Rattle.shelves.specs.declared.version.Version.{Version}
use Rattle.fields.specs.Written.{version_bytes, row_bytes, pasted, written}
use Rattle.fields.proofs.Pasted.{length_pasted, then_pasted, length_row_bytes, written_if_room}
use Rattle.image.specs.Writes.{freed}

module _ (bs : List ℕ) (start used : ℕ) (vs : List Version) (room : start + 192 ≤ length bs) (few : length vs ≤ 8) where
  row_written : written bs start (row_bytes vs) ≡ pasted bs start (row_bytes vs)
  row_written = written_if_room bs start (row_bytes vs) (omega (arith, length_row_bytes vs))

  pub freed_written : used ≤ 8 → length vs < used
      → written (written bs start (row_bytes vs)) (start + 24 * length vs) (version_bytes blank) ≡ pasted bs start (row_bytes (vs ++ freed used (length vs)))
  freed_written old h =
      let n = length_row_bytes vs in
      let long = length_pasted bs start (row_bytes vs) (omega (arith, length_row_bytes vs)) in
      let one : vs ++ blank ∷ [] ≡ vs ++ freed used (length vs) =
      ap (λ f. vs ++ f) (sym (cond-true (nat_lt (length vs) used) (blank ∷ []) [] (lt-ltb (length vs) used h))) in
      ap (λ xs. written xs (start + 24 * length vs) (version_bytes blank)) row_written
      ∙ written_if_room (pasted bs start (row_bytes vs)) (start + 24 * length vs) (version_bytes blank) (omega (arith, length_pasted bs start (row_bytes vs) (omega (arith, length_row_bytes vs))))
      ∙ ap (λ m. pasted (pasted bs start (row_bytes vs)) (start + m) (version_bytes blank)) (sym (length_row_bytes vs))
      ∙ then_pasted bs start (row_bytes vs) (omega (arith, length_row_bytes vs)) (version_bytes blank) (omega (arith, length_row_bytes vs))
      ∙ ap (pasted bs start) (flat_map_more version_bytes [] vs blank ∙ ap row_bytes one)

  pub kept_written : used ≤ length vs → written bs start (row_bytes vs) ≡ pasted bs start (row_bytes (vs ++ freed used (length vs)))
  kept_written h =
      let none : vs ++ freed used (length vs) ≡ vs =
      ap (λ f. vs ++ f) (cond-false (nat_lt (length vs) used) (blank ∷ []) [] (le-ltb (length vs) used h)) ∙ append-nil vs in
      row_written ∙ ap (λ ws. pasted bs start (row_bytes ws)) (sym none)
