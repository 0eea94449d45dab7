use Rattle.rules.proofs.Rowed.{last_some, last_none, last_largest}
use Rattle.rules.proofs.laws.choices_have_largest_number.Goals as goal

pub returns : goal.returns
returns c = record {
  chosen = λ p row k rule e.
      let last = last_some p row k e in
      record { stands = last.there; passes = last.passes; largest = last_largest p row k rule last };
  none = last_none;
}
