use Rattle.image.proofs.Deciding.{read_row}
use Rattle.image.proofs.opening.Image.edited.Goals as goal

pub returns : goal.returns
returns c =
    let read = read_row c.args.self.now.bytes.items c.args.item c.in_ok-before.before c.in_ok-before.ensures in
    record { known = read.known; row = read.row; edited = c.in_ok-after.ensures }
