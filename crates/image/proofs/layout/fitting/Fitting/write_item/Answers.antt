use Rattle.std.proofs.Common.{◌≡◌, ◌+◌, ◌*◌, ◌≤◌, [], ◌∷◌, length, set, ap, ap₂, ◌∙◌, subst, arith}
use Rattle.std.specs.List.{AllByRecursion}
use Rattle.fields.specs.Written.{row_bytes, pasted, has_room, written, VersionFits}
use Rattle.fields.proofs.Pasted.{length_pasted, length_row_bytes, two_sets, has_room_true, written_if_room}
use Rattle.shelves.specs.Items.{level_of, row_of}
use Rattle.image.specs.Laid.{filled}
use Rattle.image.proofs.Laying.{length_filled}
use Rattle.image.proofs.layout.fitting.Fitting.write_item.Goals as goal

pub returns : goal.returns
returns g c =
    let bs = c.args.bytes.now in
    let i = c.args.item in
    let items = g.R.Rows.items c.args.self.now.rows.now in
    let at = 8 + 2 * length items + 192 * i in
    let vs = row_of items i in
    let ds = row_bytes (filled vs) in
    let entry = level_of items i ∷ length vs ∷ [] in
    let head = pasted bs (8 + 2 * i) entry in
    let next : 9 + 2 * i ≡ 8 + 2 * i + 1 = omega arith in
    let entries =
    ap₂ (λ p q. set (set bs p c.level.result) q c.versions.result) c.level-2.ensures c.used.ensures
    ∙ ap₂ (λ l n. set (set bs (8 + 2 * i) l) (9 + 2 * i) n) c.level.ensures c.versions.ensures
    ∙ ap (λ n. set (set bs (8 + 2 * i) (level_of items i)) n (length vs)) next ∙ two_sets bs (8 + 2 * i) (level_of items i) (length vs) (omega arith) in
    let place : c.row_start-start.result ≡ at = c.row_start-start.ensures ∙ ap (λ k. 8 + 2 * k + 192 * i) c.count.ensures in
    let room : at + length ds ≤ length head =
    omega (arith, length_pasted bs (8 + 2 * i) entry (omega arith), length_row_bytes (filled vs), length_filled vs c.requires.short) in
    record {
      after = c.write_row.ensures.after ∙ ap₂ (λ xs n. written xs n (row_bytes c.places.result)) entries place ∙ ap (λ ps. written head at (row_bytes ps)) c.places.ensures ∙ written_if_room head at ds room;
      fits = subst (AllByRecursion VersionFits) c.places.ensures (c.write_row.ensures.fits (c.write_row.ensures.answer ∙ ap₂ (λ xs n. has_room xs n (row_bytes c.places.result)) entries place ∙ ap (λ ps. has_room head at (row_bytes ps)) c.places.ensures ∙ has_room_true head at ds room));
    }
