-- What the walks over a row and the tables come to. Assumes nothing.
use Rattle.std.proofs.Common.{◌≡◌, ℕ, zero, suc, ◌+◌, ◌<◌, Bool, List, [], ◌∷◌, length, drop, Option, sym, refl, ap, ◌∙◌, arith}
use Rattle.std.specs.List.{fold, range_with_len, slice_get}
use Rattle.std.proofs.lemmas.List.{at_drop_all, at_drop_more}
use Rattle.std.proofs.lemmas.Option.{slice_get-get_or}
use Rattle.shelves.specs.Edits.{blank}
use Rattle.shelves.specs.declared.version.Version.{Version}
use Rattle.tables.specs.declared.table.Table.{Table}
use Rattle.rules.specs.Choices.{last_from}
use Rattle.rules.specs.Watermarks.{collected}
use Rattle.rules.specs.declared.decision.Chosen.{Chosen}
use Rattle.choosing.specs.Wants.{later}

pub last_more : (p : Version → Bool) (best : Option Chosen) (i : ℕ) (row : List Version) → i < length row
    → last_from p best i (drop i row) ≡ last_from p (later p best i (slice_get row i)) (i + 1) (drop (i + 1) row)
last_more p best i row lt =
    at_drop_more (last_from p best i) row i blank lt
    ∙ ap (λ o. last_from p (later p best i o) (i + 1) (drop (i + 1) row)) (sym (slice_get-get_or row i blank lt))

-- the places of a row from i on, each asked in turn
pub last_by_fold : (p : Version → Bool) (row : List Version) (n i : ℕ) (best : Option Chosen) → i + n ≡ length row
    → fold (λ b j. later p b j (slice_get row j)) best (range_with_len i n) ≡ last_from p best i (drop i row)
last_by_fold p row zero i best e = sym (at_drop_all (last_from p best i) row i (omega (arith, e)))
last_by_fold p row (suc n) i best e =
    last_by_fold p row n (i + 1) (later p best i (slice_get row i)) (omega (arith, e)) ∙ sym (last_more p best i row (omega (arith, e)))

-- past the last level
pub no_level : (p : ℕ → Bool) (i : ℕ) (ts : List Table) → length ts ≡ 0 → collected p i ts ≡ []
no_level p i [] e = refl
no_level p i (t ∷ ts) e = absurd (omega (arith, e))
