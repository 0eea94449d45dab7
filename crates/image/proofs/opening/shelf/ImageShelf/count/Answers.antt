use Rattle.std.proofs.Common.{sym, ap, ◌∙◌}
use Rattle.fields.specs.Fields.{field32}
use Rattle.image.specs.Known.{length_items}
use Rattle.image.proofs.opening.shelf.ImageShelf.count.Goals as goal

pub returns : goal.returns
returns c = c.read32.ensures ∙ ap (λ bs. field32 bs 0) c.as_slice.ensures.value ∙ sym (length_items c.args.self.now.bytes.items)
