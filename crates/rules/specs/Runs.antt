-- One call of any kind, and runs of many. Assumes nothing.
use Rattle.std.specs.Prelude.{◌≡◌, Bool, List, [], ◌∷◌, Err, Result}
use Rattle.std.specs.Result.{is_ok, result_map_both}
use Rattle.rules.specs.Answers.{Answer}
use Rattle.rules.specs.States.{Parts, State}
use Rattle.rules.specs.Steps.{Outcome, tick, begin, read, write, commit, abort}
use Rattle.rules.specs.declared.answer.Reply.{Reply}
use Rattle.rules.specs.declared.answer.Reply.TheVariants.{Clock, Begun, Value, Done}
use Rattle.rules.specs.declared.call.Call.{Call}
use Rattle.rules.specs.declared.call.Call.TheVariants.{Tick, Begin, Read, Write, Commit, Abort}
use Rattle.rules.specs.declared.refusal.Refusal.{Refusal}

-- the answer of a call, from what it gives when it is accepted
abbrev pub answer_by : {R : Type 0} → (R → Reply) → Result R Refusal → Answer
answer_by f r = result_map_both f (λ e. e) r

abbrev pub answered_by : {R : Type 0} → (R → Reply) → Outcome R → Answer × State
answered_by f o = (answer_by f o.0, o.1)

-- the answer to a call, and the state after it
abbrev pub step : Parts → State → Call → Answer × State
step P s Tick = answered_by Clock (tick s)
step P s (Begin l d) = answered_by (λ p. Begun p.0 p.1) (begin P s l d)
step P s (Read l n x) = answered_by Value (read P s l n x)
step P s (Write l n x v) = answered_by (λ _. Done) (write P s l n x v)
step P s (Commit l n) = answered_by (λ _. Done) (commit P s l n)
step P s (Abort l n) = answered_by (λ _. Done) (abort P s l n)

-- a refused call leaves the state as it was
abbrev pub RefusedCallLeavesState : Type 0
RefusedCallLeavesState = (P : Parts) (s : State) (c : Call) (e : Refusal) → (step P s c).0 ≡ Err e → (step P s c).1 ≡ s

-- the answers to a list of calls, one by one, and the state after them
abbrev pub run : Parts → State → List Call → List Answer × State
run P s [] = ([], s)
run P s (c ∷ cs) = let o = step P s c in let r = run P o.1 cs in (o.0 ∷ r.0, r.1)

-- a call with its answer
pub record Sent : Type 0 where
  pub call : Call
  pub answer : Answer

-- calls with their answers, one by one
abbrev pub logged : List Call → List Answer → List Sent
logged [] rs = []
logged (c ∷ cs) [] = []
logged (c ∷ cs) (r ∷ rs) = record { call = c; answer = r } ∷ logged cs rs

-- the calls of a run with their answers
abbrev pub log : Parts → State → List Call → List Sent
log P s cs = logged cs (run P s cs).0

abbrev pub accepted : Answer → Bool
accepted r = is_ok r
