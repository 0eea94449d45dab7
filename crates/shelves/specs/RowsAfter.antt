-- The versions of a row that an edit made. Assumes nothing.
use Rattle.std.specs.Prelude.{◌≡◌, ◌≤◌, true, length, take}
use Rattle.std.proofs.Common.{sym, ap, ap₂, ◌∙◌, arith}
use Rattle.std.proofs.lemmas.List.{length-take-le}
use Rattle.std.proofs.lemmas.Bool.{and_parts, cond-true}
use Rattle.shelves.specs.declared.edit.Edit.{Edit}
use Rattle.shelves.specs.declared.row.Row.{Row}
use Rattle.shelves.specs.Edits.{fits, count_after, edited, accepts, row_after}
use Rattle.shelves.specs.Placed.{edited_front}
use Rattle.shelves.specs.RowEdits.{versions, RowEdited}
use Rattle.shelves.specs.Rows.{keeps_rule}

pub length_versions : (r : Row) → length (versions r) ≡ r.count
length_versions r = length-take-le r.count r.places (omega arith)

pub versions_edited : (e : Edit) (r s : Row) → RowEdited e r s → versions s ≡ edited e (versions r)
versions_edited e r s x =
    let fit : fits e r.count ≡ true =
    ap (fits e) (sym (length_versions r)) ∙ (and_parts (fits e (length (versions r))) (keeps_rule (edited e (versions r))) x.accepted).0 in
    let room : count_after e r.count ≤ 8 = omega (arith, x.count) in
    ap₂ take x.count x.places ∙ edited_front e r.places r.count r.full r.few fit room

pub versions_after : (e : Edit) (r s : Row) → RowEdited e r s → versions s ≡ row_after e (versions r)
versions_after e r s x =
    versions_edited e r s x
    ∙ sym (cond-true (accepts e (versions r)) (edited e (versions r)) (versions r) x.accepted)
