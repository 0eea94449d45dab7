use Rattle.std.proofs.Common.{arith}
use Rattle.image.specs.Known.{length_items}
use Rattle.image.proofs.opening.Image.start.Goals as goal

pub returns : goal.returns
returns c = omega (arith, c.count.ensures, length_items c.args.self.now.bytes.items)
