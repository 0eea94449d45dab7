-- Answers picked one by one beside their calls are those of the log that a level sees.
use Rattle.std.proofs.Common.{◌≡◌, ℕ, Bool, true, false, cond, List, [], ◌∷◌, map, refl, ap}
use Rattle.std.specs.Bool.{then_some}
use Rattle.std.specs.List.{zip, filter_map, cons_option}
use Rattle.orders.specs.Orders.{Order}
use Rattle.rules.specs.Answers.{Answer}
use Rattle.rules.specs.Isolation.{visible, seen_log}
use Rattle.rules.specs.Runs.{Sent, logged}
use Rattle.rules.specs.declared.call.Call.{Call}

-- one answer more, by whether its call is seen
one_more : (b : Bool) (c : Call) (r : Answer) (rs : List Answer) (log : List Sent) → rs ≡ map (λ s. s.answer) log
    → cons_option (then_some b r) rs ≡ map (λ s. s.answer) (cond b (record { call = c; answer = r } ∷ log) log)
one_more true c r rs log e = ap (λ xs. r ∷ xs) e
one_more false c r rs log e = e

pub seen_in_log : (o : Order) (l : ℕ) (calls : List Call) (answers : List Answer)
    → filter_map (λ p. then_some (visible o l p.0) p.1) (zip calls answers) ≡ map (λ s. s.answer) (seen_log o l (logged calls answers))
seen_in_log o l [] answers = refl
seen_in_log o l (c ∷ calls) [] = refl
seen_in_log o l (c ∷ calls) (r ∷ answers) = one_more (visible o l c) c r _ (seen_log o l (logged calls answers)) (seen_in_log o l calls answers)
