use Rattle.std.proofs.Common.{sym, subst}
use Rattle.image.specs.Layout.{IsImage}
use Rattle.image.specs.Known.{image_ok}
use Rattle.image.proofs.opening.Image.as_slice.Goals as goal

pub returns : goal.returns
returns c =
    let m = c.args.self.now in
    let value = c.as_slice.ensures.value in
    record { value = value; image = subst IsImage (sym value) (image_ok m.bytes.items m.ok) }
