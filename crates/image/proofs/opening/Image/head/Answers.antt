use Rattle.std.proofs.Common.{◌<◌, get_or, sym, ap, ap₂, ◌∙◌, arith}
use Rattle.image.specs.Layout.{item_count}
use Rattle.image.specs.Known.{length_items, known_level, known_versions}
use Rattle.image.proofs.opening.Image.head.Goals as goal

pub bounds-bytes-level : goal.bounds-bytes-level
bounds-bytes-level c =
    omega (arith, c.count.ensures, length_items c.args.self.now.bytes.items, ap item_count c.as_slice-bytes.ensures.value, c.as_slice-bytes.ensures.image.length_exact)

pub bounds-bytes-used : goal.bounds-bytes-used
bounds-bytes-used c =
    omega (arith, c.count.ensures, length_items c.args.self.now.bytes.items, ap item_count c.as_slice-bytes.ensures.value, c.as_slice-bytes.ensures.image.length_exact)

pub returns : goal.returns
returns c =
    let bs = c.args.self.now.bytes.items in
    let known : c.args.item < item_count bs = omega (arith, c.count.ensures, length_items bs) in
    record {
      level = ap₂ (λ xs at. get_or xs at 0) c.as_slice-bytes.ensures.value c.level.ensures ∙ sym (known_level bs c.args.item known);
      versions = ap₂ (λ xs at. get_or xs at 0) c.as_slice-bytes.ensures.value c.used.ensures ∙ sym (known_versions bs c.args.item known);
    }
