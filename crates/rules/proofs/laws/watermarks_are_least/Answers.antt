use Rattle.rules.proofs.Marks.{floor_is, bound_is, no_level_clock}
use Rattle.rules.proofs.Tabled.{collected_in, collected_from, earliest_is}
use Rattle.rules.specs.Watermarks.{at_or_below}
use Rattle.rules.proofs.laws.watermarks_are_least.Goals as goal

pub returns : goal.returns
returns c = record {
  collected = λ p ts x. (collected_from p ts x, λ q i. collected_in p ts x.level x.number x.stamp q i);
  floor = floor_is;
  bound = bound_is;
  clock = no_level_clock;
  earliest = λ P s l y e. earliest_is (at_or_below P s l) y e;
}
