-- What `parse` reads is the number in a text, and what a line splits into makes its label.
use Rattle.std.proofs.Common.{◌≡◌, ℕ, ◌^◌, ◌<◌, ◌&&◌, true, List, length, Some, None, Ok, Err, Result, Option, Bor, rules, nat_lt, inl, inr, sym, ap, ap₂, ◌∙◌}
use Rattle.std.proofs.lemmas.Bool.{and_parts, and_from, ltb-true, lt-ltb, cases_Bool, cond-true, cond-false}
use Rattle.std.proofs.lemmas.Option.{MatchOption-at_some}
use Rattle.std.proofs.lemmas.Str.Parse.{IsNumeralModel, numerals_by_value, tells_all_ascii_digits}
use Rattle.std.proofs.lemmas.Str.Pattern.{IsSplitOnceResult, split_once_first}
use Rattle.std.specs.Result.{result_ok}
use Rattle.std.specs.Str.{all_ascii_digits}
use Rattle.std.specs.Str.Parse.{ParsesUnsigned, IsNumeral, digits_value, without_leading_plus}
use Rattle.showing.specs.Lines.{is_number, number_in, labelled, label_in}

decimal_digits : IsNumeralModel (λ ds. all_ascii_digits ds ≡ true) (digits_value 10)
decimal_digits = numerals_by_value _ tells_all_ascii_digits

is_number_from : (k : ℕ) (ds : List ℕ) → IsNumeral 10 ds × (digits_value 10 ds < 2 ^ k) → is_number k ds ≡ true
is_number_from k ds h =
    and_from (nat_lt 0 (length ds)) _ (lt-ltb 0 (length ds) h.0.0)
    (and_from (all_ascii_digits ds) _ (decimal_digits.from ds h.0.1) (lt-ltb (digits_value 10 ds) (2 ^ k) h.1))

numeral_from : (k : ℕ) (ds : List ℕ) → is_number k ds ≡ true → IsNumeral 10 ds × (digits_value 10 ds < 2 ^ k)
numeral_from k ds e =
    let p = and_parts (nat_lt 0 (length ds)) (all_ascii_digits ds && nat_lt (digits_value 10 ds) (2 ^ k)) e in
    let q = and_parts (all_ascii_digits ds) (nat_lt (digits_value 10 ds) (2 ^ k)) p.1 in
    ((ltb-true 0 (length ds) p.0, decimal_digits.to ds q.0), ltb-true (digits_value 10 ds) (2 ^ k) q.1)

number_parsed : {E : Type 0} (k : ℕ) (text : List ℕ) (r : Result ℕ E) → ParsesUnsigned k 10 text r → result_ok r ≡ number_in k text
number_parsed k text (Ok n) h =
    let ds = without_leading_plus text in
    ap Some h.1 ∙ sym (cond-true (is_number k ds) (Some (digits_value 10 ds)) None (is_number_from k ds h.0))
number_parsed k text (Err e) h =
    let ds = without_leading_plus text in
    elim (cases_Bool (is_number k ds)) [
      | inl t ↦ absurd (h (numeral_from k ds t))
      | inr f ↦ sym (cond-false (is_number k ds) (Some (digits_value 10 ds)) None f)
    ]

-- from what `parse` and `ok` say
pub number_read : {E : Type 0} (k : ℕ) (text : List ℕ) (r : Result ℕ E) (o a : Option ℕ) → ParsesUnsigned k 10 text r → o ≡ result_ok r → o ≡ a
    → number_in k text ≡ a
number_read k text r o a h e f = sym (number_parsed k text r h) ∙ sym e ∙ f

-- from what `split_once` says, and from the numbers in the two parts
pub label_read : (line : List ℕ) (r : Option (Bor (List ℕ) × Bor (List ℕ))) (rank walls : Bor (List ℕ)) (a b : Option ℕ)
    → IsSplitOnceResult 32 line r → r ≡ Some (rank, walls) → number_in 8 rank.now ≡ a → number_in 16 walls.now ≡ b → label_in line ≡ labelled a b
label_read line r rank walls a b h e x y =
    let split = MatchOption-at_some _ _ (rank, walls) e (split_once_first 32 line r h (search rules)) in
    ap₂ labelled (ap (number_in 8) (sym split.1) ∙ x) (ap (number_in 16) (sym split.2) ∙ y)
