use Rattle.std.proofs.Common.{length, drop, rules}
use Rattle.rules.specs.Starts.{Lawful}
use Rattle.scheduler.specs.Views.{parts_of, state_of}
use Rattle.runs.proofs.Lawfully.{hides_calls, is_serial, has_running_order}
use Rattle.runs.proofs.Stepwise.{front_answers}
use Rattle.runs.proofs.running.run.Goals as goal

pub returns : goal.returns
returns g c =
    let before = c.args.scheduler.now in
    let P = parts_of g.O.LevelOrder.meaning g.P.Placement.meaning before in
    let s = state_of g.S.Shelf.items before in
    let t = state_of g.S.Shelf.items c.run_all.new.scheduler in
    let cs = c.args.calls.now in
    let ran = c.run_all.ensures in
    let lawful : Lawful P = record { order = g.met.O.LevelOrder.lawful before.order; placing = g.met.P.Placement.bounded before.placement } in
    let answers = front_answers P s cs c.run_all.new.answers (drop (length cs) c.args.answers.now) ran.answers in
    record {
      room = search rules;
      too_short = λ e. cc;
      ran = λ _. ran;
      hides_calls = λ _. hides_calls P lawful s t cs _ answers ran.state;
      serial = λ _. is_serial P lawful s t cs _ answers ran.state;
      running_order = λ _. has_running_order P lawful s t cs _ answers ran.state;
    }
