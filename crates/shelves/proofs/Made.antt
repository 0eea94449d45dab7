-- A row made of the places after an edit is the edited row. Assumes nothing.
use Rattle.std.proofs.Common.{◌≡◌, ℕ, true, false, ◌&&◌, List, take, Option, None, Some, MatchOption, sym, ap, ap₂, ◌∙◌, inl, inr}
use Rattle.std.proofs.lemmas.Bool.{le-leb, lt-leb, cases_lt}
use Rattle.shelves.specs.declared.edit.Edit.{Edit}
use Rattle.shelves.specs.declared.row.Row.{Row}
use Rattle.shelves.specs.declared.version.Version.{Version}
use Rattle.shelves.specs.Edits.{fits, count_after, accepts, places_after}
use Rattle.shelves.specs.Placed.{accepts_places, accepts_no_ninth}
use Rattle.shelves.specs.RowEdits.{versions, makes_row, RowMade, RowEdited}
use Rattle.shelves.specs.Rows.{keeps_rule}

accepts_made : (e : Edit) (r : Row) → fits e r.count ≡ true → accepts e (versions r) ≡ makes_row (places_after e r.places) (count_after e r.count)
accepts_made e r h =
    let n = count_after e r.count in
    let row = keeps_rule (take n (places_after e r.places)) in
    elim (cases_lt 8 n) [
      | inl l ↦ accepts_no_ninth e r.places r.count r.full r.few h l ∙ ap (λ b. b && row) (sym (lt-leb n 8 l))
      | inr l ↦ accepts_places e r.places r.count r.full r.few h l ∙ ap (λ b. b && row) (sym (le-leb n 8 l))
    ]

pub edited_by_made : (e : Edit) (r : Row) → fits e r.count ≡ true
    → (vs : List Version) → vs ≡ places_after e r.places → (n : ℕ) → n ≡ count_after e r.count
    → (o : Option Row) → MatchOption o (makes_row vs n ≡ false) (RowMade vs n) → MatchOption o (accepts e (versions r) ≡ false) (RowEdited e r)
edited_by_made e r h vs p n q None m = accepts_made e r h ∙ sym (ap₂ makes_row p q) ∙ m
edited_by_made e r h vs p n q (Some s) m =
    record { accepted = accepts_made e r h ∙ sym (ap₂ makes_row p q) ∙ m.made; count = m.count ∙ q; places = m.places ∙ p }
