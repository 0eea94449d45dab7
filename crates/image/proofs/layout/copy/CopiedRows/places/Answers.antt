use Rattle.std.proofs.Common.{◌≡◌, set, unwrap_or, ap₂, ◌∙◌, arith, rules}
use Rattle.std.specs.List.{slice_get}
use Rattle.std.proofs.lemmas.Option.{unwrap_or-slice_get}
use Rattle.shelves.specs.Edits.{blank}
use Rattle.shelves.specs.Items.{row_of}
use Rattle.image.proofs.Filled.{filled_more, filled_all}
use Rattle.image.proofs.layout.copy.CopiedRows.places.Goals as goal

pub loop-place-preserved : goal.loop-place-preserved
loop-place-preserved g c =
    let vs = row_of (g.S.Shelf.items c.args.self.now.shelf.now) c.args.item in
    let j = c.loop-place.place in
    let looked : c.unwrap_or.result ≡ unwrap_or (slice_get vs j) blank = search rules in
    ap₂ (λ ps v. set ps j v) c.loop-place.invariant (looked ∙ unwrap_or-slice_get vs j blank)
    ∙ filled_more vs j (omega (arith, c.versions-used.ensures, c.loop-place-test.true)) c.requires

pub returns : goal.returns
returns g c =
    let vs = row_of (g.S.Shelf.items c.args.self.now.shelf.now) c.args.item in
    c.loop-place.invariant ∙ filled_all vs c.loop-place.place (omega (arith, c.versions-used.ensures, c.loop-place-test.false, c.loop-place.auto.place-end))
