-- Which label a line of text says, and what comes of it. Assumes nothing.
use Rattle.std.specs.Prelude.{ℕ, ◌^◌, Bool, cond, ◌&&◌, List, length, Some, None, Ok, Err, Option, Result, ◌==◌, nat_lt}
use Rattle.std.specs.List.{before_first, after_first}
use Rattle.std.specs.Str.{all_ascii_digits}
use Rattle.std.specs.Str.Parse.{digits_value, without_leading_plus}
use Rattle.orders.specs.Labels.{label_refusal, with_label}
use Rattle.orders.specs.declared.label.Label.{Label}
use Rattle.orders.specs.declared.refusal.OrderRefusal.{OrderRefusal}
use Rattle.showing.specs.declared.labels.LabelFault.{LabelFault}
use Rattle.showing.specs.declared.labels.LabelFault.TheVariants.{NotUnderstood, Refused}

-- one decimal digit or more, for a number below 2 ^ k
abbrev pub is_number : ℕ → List ℕ → Bool
is_number k digits = nat_lt 0 (length digits) && (all_ascii_digits digits && nat_lt (digits_value 10 digits) (2 ^ k))

-- the number that a text says, if it is one below 2 ^ k; a plus may stand before it
abbrev pub number_in : ℕ → List ℕ → Option ℕ
number_in k text = cond (is_number k (without_leading_plus text)) (Some (digits_value 10 (without_leading_plus text))) None

abbrev pub is_space : ℕ → Bool
is_space byte = byte == 32

abbrev pub labelled : Option ℕ → Option ℕ → Option Label
labelled (Some rank) (Some walls) = Some (record { rank = rank; walls = walls })
labelled (Some rank) None = None
labelled None walls = None

-- the rank stands before the first space and the set of walls behind it; without a space there is no label
abbrev pub label_in : List ℕ → Option Label
label_in line = labelled (number_in 8 (before_first is_space line)) (number_in 16 (after_first is_space line))

-- what is answered to a label, by why it is refused
abbrev pub taken : Option OrderRefusal → Result (Unit {0}) LabelFault
taken None = Ok tt
taken (Some refusal) = Err (Refused refusal)

-- what is answered to a line, over the labels taken before it
abbrev pub line_answer : List Label → Option Label → Result (Unit {0}) LabelFault
line_answer labels None = Err NotUnderstood
line_answer labels (Some label) = taken (label_refusal labels label)

-- the labels after the line
abbrev pub labels_after : List Label → Option Label → List Label
labels_after labels None = labels
labels_after labels (Some label) = with_label labels label
