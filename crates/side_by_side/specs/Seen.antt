-- What a level sees of answers. Assumes nothing.
use Rattle.std.specs.Prelude.{ℕ, List, map}
use Rattle.orders.specs.Orders.{Order}
use Rattle.rules.specs.Answers.{Answer}
use Rattle.rules.specs.Isolation.{seen_log}
use Rattle.rules.specs.Runs.{logged}
use Rattle.rules.specs.declared.call.Call.{Call}

-- the answers to the calls that l sees, in their order
abbrev pub seen_answers : Order → ℕ → List Call → List Answer → List Answer
seen_answers o l calls answers = map (λ s. s.answer) (seen_log o l (logged calls answers))
