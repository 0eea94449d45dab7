use Rattle.std.proofs.Common.{◌≡◌, Bool, true, ◌≤◌, ◌&&◌, ℕ, List, take, None, Some, refl, sym, ap, ◌∙◌, arith}
use Rattle.std.proofs.lemmas.Bool.{le-leb}
use Rattle.shelves.specs.Rows.{keeps_rule}
use Rattle.shelves.specs.RowEdits.{makes_row}
use Rattle.shelves.specs.declared.version.Version.{Version}
use Rattle.shelves.proofs.Made.{edited_by_made}
use Rattle.shelves.proofs.row.Row.edited.Goals as goal

-- whether places are a row, where no ninth is in use
rule_alone : (vs : List Version) (n : ℕ) (b : Bool) → n ≤ 8 → b ≡ keeps_rule (take n vs) → makes_row vs n ≡ b
rule_alone vs n b few is = ap (λ t. t && keeps_rule (take n vs)) (le-leb n 8 few) ∙ sym is

pub returns-then-not-keeps_rule : goal.returns-then-not-keeps_rule
returns-then-not-keeps_rule c =
    let vs = c.places_after-places.result in
    let n = c.count_after-count.result in
    edited_by_made c.args.edit c.args.self.now (sym c.if-not-fits.ensures) vs c.places_after-places.ensures n c.count_after-count.ensures None
    (rule_alone vs n _ (omega arith) c.if-not-keeps_rule.ensures.value)

pub returns : goal.returns
returns c =
    let vs = c.places_after-places.result in
    let n = c.count_after-count.result in
    edited_by_made c.args.edit c.args.self.now (sym c.if-not-fits.ensures) vs c.places_after-places.ensures n c.count_after-count.ensures (Some _)
    (record { made = rule_alone vs n true (omega arith) c.if-not-keeps_rule.ensures.value; count = refl; places = refl })
