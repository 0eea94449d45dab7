-- Answers by their numbers and the values printed. Assumes nothing.
use Rattle.std.specs.Prelude.{ℕ, List, [], ◌∷◌, Ok, Err, Result}
use Rattle.rules.specs.declared.answer.Reply.{Reply}
use Rattle.rules.specs.declared.answer.Reply.TheVariants.{Clock, Begun, Value, Done}
use Rattle.rules.specs.declared.refusal.Refusal.{Refusal}
use Rattle.rules.specs.declared.refusal.Refusal.TheVariants.{Unfit, ClockAtEnd, UnknownLevel, DegreeTooHigh, NotActive, UnknownItem, NotDominated, OtherLevel, TableFull, NumbersAtEnd, PendingOther, ReadLater, RowFull, Dropped, Wait, LowerPending}

-- what a call is answered: what it gives when it is accepted, or why it is refused
abbrev pub Answer : Type 0
Answer = Result Reply Refusal

-- the number under which a refusal is known outside
abbrev pub refusal_number : Refusal → ℕ
refusal_number Unfit = 4
refusal_number ClockAtEnd = 5
refusal_number UnknownLevel = 6
refusal_number DegreeTooHigh = 7
refusal_number NotActive = 8
refusal_number UnknownItem = 9
refusal_number NotDominated = 10
refusal_number OtherLevel = 11
refusal_number TableFull = 12
refusal_number NumbersAtEnd = 13
refusal_number (PendingOther l n) = 14
refusal_number ReadLater = 15
refusal_number RowFull = 16
refusal_number Dropped = 17
refusal_number (Wait l n) = 18
refusal_number LowerPending = 19

-- what a refusal adds: level and number of another transaction
abbrev pub additions : Refusal → List ℕ
additions Unfit = []
additions ClockAtEnd = []
additions UnknownLevel = []
additions DegreeTooHigh = []
additions NotActive = []
additions UnknownItem = []
additions NotDominated = []
additions OtherLevel = []
additions TableFull = []
additions NumbersAtEnd = []
additions (PendingOther l n) = l ∷ n ∷ []
additions ReadLater = []
additions RowFull = []
additions Dropped = []
additions (Wait l n) = l ∷ n ∷ []
additions LowerPending = []

-- 0 for an accepted call
abbrev pub answer_number : Answer → ℕ
answer_number (Ok r) = 0
answer_number (Err e) = refusal_number e

-- the values printed behind the number
abbrev pub answer_values : Answer → List ℕ
answer_values (Ok (Clock c)) = c ∷ []
answer_values (Ok (Begun n t)) = n ∷ t ∷ []
answer_values (Ok (Value x)) = x ∷ []
answer_values (Ok Done) = []
answer_values (Err e) = additions e
