use Rattle.rules.proofs.Reaching.{question_has_room, stamps_never_fall, stamps_within_clock, numbers_rise, floor_never_falls}
use Rattle.rules.proofs.Waiting.{wait_names_the_earliest}
use Rattle.rules.proofs.laws.reached_stamps.Goals as goal

pub returns : goal.returns
returns c = record {
  room = question_has_room;
  rising = stamps_never_fall;
  within = stamps_within_clock;
  numbers = numbers_rise;
  floor = floor_never_falls;
  wait = wait_names_the_earliest;
}
