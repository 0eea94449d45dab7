-- Versions of a row, each with the one before it. Assumes nothing.
use Rattle.std.proofs.Common.{◌≡◌, ℕ, ◌+◌, ◌*◌, List, [], ◌∷◌, drop, Option, refl, ap, ◌∙◌, arith}
use Rattle.std.specs.List.{zip, enumerate_from}
use Rattle.shelves.specs.declared.version.Version.{Version}
use Rattle.image.specs.Faults.{either}
use Rattle.image.specs.Laid.{next_fault, versions_fault}
use Rattle.image.proofs.Tried.{first_of}

-- two versions behind one another with their number, in a row that begins at an offset
abbrev pub pair_fault : ℕ → ℕ × (Version × Version) → Option ℕ
pair_fault start p = next_fault p.1.0 p.1.1 (start + 24 * (p.0 + 1))

pair_from : (vs : List Version) (start j at : ℕ) → start + 24 * j ≡ at → first_of (pair_fault start) (enumerate_from j (zip vs (drop 1 vs))) ≡ versions_fault vs at
pair_from [] start j at e = refl
pair_from (v ∷ []) start j at e = refl
pair_from (v ∷ (w ∷ ws)) start j at e =
    let next : start + 24 * (j + 1) ≡ at + 24 = omega arith in
    ap (either (next_fault v w (start + 24 * (j + 1)))) (pair_from (w ∷ ws) start (j + 1) (at + 24) next)
    ∙ ap (λ n. either (next_fault v w n) (versions_fault (w ∷ ws) (at + 24))) next

pub first_pair : (vs : List Version) (start : ℕ) → first_of (pair_fault start) (enumerate_from 0 (zip vs (drop 1 vs))) ≡ versions_fault vs start
first_pair vs start = pair_from vs start 0 start (omega arith)
