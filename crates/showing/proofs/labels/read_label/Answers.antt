use Rattle.std.proofs.Common.{Some, None, refl, sym, ◌∙◌}
use Rattle.showing.specs.Lines.{number_in}
use Rattle.showing.proofs.Numbers.{number_read, label_read}
use Rattle.showing.proofs.labels.read_label.Goals as goal

pub returns-in_err-rank-2 : goal.returns-in_err-rank-2
returns-in_err-rank-2 c =
    let rank = number_read 8 c.in_ok-rank.rank.now c.parse.result c.ok.result None c.parse.ensures.value.0 c.ok.ensures.value c.in_err-rank-2.was in
    c.from_residual-in_err-rank-2.ensures
    ∙ sym (label_read c.args.line.now c.split_once.result c.in_ok-rank.rank c.in_ok-rank.walls None (number_in 16 c.in_ok-rank.walls.now) c.split_once.ensures.cases c.in_ok-rank.was rank refl)

pub returns-in_err-walls : goal.returns-in_err-walls
returns-in_err-walls c =
    let rank = number_read 8 c.in_ok-rank.rank.now c.parse.result c.ok.result (Some c.in_ok-rank-2.rank) c.parse.ensures.value.0 c.ok.ensures.value c.in_ok-rank-2.was in
    let walls = number_read 16 c.in_ok-rank.walls.now c.parse-2.result c.ok-2.result None c.parse-2.ensures.value.0 c.ok-2.ensures.value c.in_err-walls.was in
    c.from_residual-in_err-walls.ensures
    ∙ sym (label_read c.args.line.now c.split_once.result c.in_ok-rank.rank c.in_ok-rank.walls (Some c.in_ok-rank-2.rank) None c.split_once.ensures.cases c.in_ok-rank.was rank walls)

pub returns : goal.returns
returns c =
    let rank = number_read 8 c.in_ok-rank.rank.now c.parse.result c.ok.result (Some c.in_ok-rank-2.rank) c.parse.ensures.value.0 c.ok.ensures.value c.in_ok-rank-2.was in
    let walls = number_read 16 c.in_ok-rank.walls.now c.parse-2.result c.ok-2.result (Some c.in_ok-walls.walls) c.parse-2.ensures.value.0 c.ok-2.ensures.value c.in_ok-walls.was in
    sym (label_read c.args.line.now c.split_once.result c.in_ok-rank.rank c.in_ok-rank.walls (Some c.in_ok-rank-2.rank) (Some c.in_ok-walls.walls) c.split_once.ensures.cases c.in_ok-rank.was rank walls)
