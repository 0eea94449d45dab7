use Rattle.std.proofs.Common.{◌≡◌, set, unwrap_or, ap₂, ◌∙◌, arith, rules}
use Rattle.std.specs.List.{slice_get}
use Rattle.std.proofs.lemmas.Option.{unwrap_or-slice_get}
use Rattle.shelves.specs.Edits.{blank}
use Rattle.shelves.specs.Items.{row_of}
use Rattle.image.specs.Opened.{items_of}
use Rattle.image.specs.Shelved.{image_lawful}
use Rattle.image.proofs.Deciding.{row_is}
use Rattle.image.proofs.Filled.{filled_more, filled_all, row_short}
use Rattle.image.proofs.opening.Image.row.Goals as goal

pub offset_bounds-places-place : goal.offset_bounds-places-place
offset_bounds-places-place c =
    let m = c.args.self.now in
    omega (arith, c.versions-used.ensures, c.loop-place-test.true, row_short (items_of m) c.args.item (image_lawful m.bytes.items m.ok))

pub bounds-places-place : goal.bounds-places-place
bounds-places-place c =
    let m = c.args.self.now in
    omega (arith, c.versions-used.ensures, c.loop-place-test.true, row_short (items_of m) c.args.item (image_lawful m.bytes.items m.ok))

pub loop-place-preserved : goal.loop-place-preserved
loop-place-preserved c =
    let m = c.args.self.now in
    let vs = row_of (items_of m) c.args.item in
    let j = c.loop-place.place in
    let looked : c.unwrap_or.result ≡ unwrap_or (slice_get vs j) blank = search rules in
    ap₂ (λ ps v. set ps j v) c.loop-place.invariant (looked ∙ unwrap_or-slice_get vs j blank)
    ∙ filled_more vs j (omega (arith, c.versions-used.ensures, c.loop-place-test.true)) (row_short (items_of m) c.args.item (image_lawful m.bytes.items m.ok))

pub returns : goal.returns
returns c =
    let m = c.args.self.now in
    let vs = row_of (items_of m) c.args.item in
    let places = c.loop-place.invariant ∙ filled_all vs c.loop-place.place (omega (arith, c.versions-used.ensures, c.loop-place-test.false, c.loop-place.auto.place-end)) in
    row_is (items_of m) c.args.item (image_lawful m.bytes.items m.ok) c.loop-place.places places c.versions-used.result c.versions-used.ensures c.new.result c.new.ensures
