use Rattle.rules.proofs.Isolated.{hidden_calls_change_no_visible_answer}
use Rattle.rules.proofs.Shown.{hidden_calls_are_compared}
use Rattle.rules.proofs.laws.hidden_calls_change_no_visible_answer.Goals as goal

pub returns : goal.returns
returns c = record { law = hidden_calls_change_no_visible_answer; example = hidden_calls_are_compared }
