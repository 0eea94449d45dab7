use Rattle.std.proofs.Common.{◌≡◌, ℕ, ◌++◌, List, Option, None, Some, length, refl, sym, ap, ap₂, ◌∙◌}
use Rattle.std.specs.List.{slice_get}
use Rattle.std.specs.Option.{option_map}
use Rattle.std.proofs.lemmas.List.{drop-replicate}
use Rattle.std.proofs.lemmas.Option.{slice_get-map, slice_get_past, slice_get_read}
use Rattle.shelves.specs.Edits.{blank}
use Rattle.shelves.specs.Items.{row_in, row_of}
use Rattle.image.specs.declared.layout.PlainRow.{PlainRow}
use Rattle.image.specs.Laid.{plain_item, plain_items, filled}
use Rattle.image.proofs.layout.plain.PlainRows.places.Goals as goal

-- the row that was looked for, or none
row_looked_for : (ps : List PlainRow) (i : ℕ) (o : Option PlainRow) → slice_get ps i ≡ o → row_of (plain_items ps) i ≡ row_in (option_map plain_item o)
row_looked_for ps i o e = ap row_in (slice_get-map plain_item ps i ∙ ap (option_map plain_item) e)

pub returns-in-Some : goal.returns-in-Some
returns-in-Some c =
    let rows = c.args.self.now.rows.now in
    let row = c.in-Some.row.now in
    let found : slice_get rows c.args.item ≡ Some row = slice_get_read rows (length rows) c.args.item row refl c.in-Some.ensures.lookup.3.0 c.in-Some.ensures.lookup.1 in
    ap₂ (λ xs ys. xs ++ ys) c.copy_from_slice.ensures.after (drop-replicate (length row.versions.now) 8 blank) ∙ ap filled (sym (row_looked_for rows c.args.item (Some row) found))

pub returns-in_default : goal.returns-in_default
returns-in_default c =
    let rows = c.args.self.now.rows.now in
    ap filled (sym (row_looked_for rows c.args.item None (slice_get_past rows c.args.item c.in_default.ensures.lookup.3)))
