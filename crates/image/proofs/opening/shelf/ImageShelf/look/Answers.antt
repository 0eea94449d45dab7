use Rattle.std.proofs.Common.{◌+◌, ◌*◌, Some, sym, ap, ap₂, ◌∙◌, arith}
use Rattle.fields.specs.Fields.{version_at}
use Rattle.image.specs.Known.{image_ok, looked_at}
use Rattle.image.proofs.opening.shelf.ImageShelf.look.Goals as goal

pub overflow_mul-place : goal.overflow_mul-place
overflow_mul-place c =
    let m = c.args.self.now in
    let l = looked_at m.bytes.items c.args.item c.args.place (image_ok m.bytes.items m.ok) (omega (arith, c.versions.ensures)) in
    omega (arith, l.place, l.few)

pub overflow_add-start : goal.overflow_add-start
overflow_add-start c =
    let m = c.args.self.now in
    let l = looked_at m.bytes.items c.args.item c.args.place (image_ok m.bytes.items m.ok) (omega (arith, c.versions.ensures)) in
    omega (arith, l.place, l.few, l.known, c.start.ensures, (image_ok m.bytes.items m.ok).few)

pub returns : goal.returns
returns c =
    let m = c.args.self.now in
    let l = looked_at m.bytes.items c.args.item c.args.place (image_ok m.bytes.items m.ok) (omega (arith, c.versions.ensures)) in
    ap Some (c.read_version.ensures ∙ ap₂ (λ xs at. version_at xs (at + 24 * c.args.place)) c.as_slice.ensures.value c.start.ensures) ∙ sym l.look
