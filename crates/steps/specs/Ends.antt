-- What an end makes of a transaction's versions, and the edits that each call is ruled to make. Assumes nothing.
use Rattle.std.specs.Prelude.{ℕ, cond, List, [], Ok, Err, Result, ◌==◌}
use Rattle.shelves.specs.Items.{Item, level_of, row_of}
use Rattle.shelves.specs.declared.edit.Edit.{Edit}
use Rattle.rules.specs.Choices.{last_that, numbered}
use Rattle.rules.specs.States.{Parts, State, ItemEdit, edits_of}
use Rattle.rules.specs.Steps.{Outcome, settled, sender, reading, read_edits, writing, write_edits, commit_edit, abort_edit, end_edit, end_edits, ended}
use Rattle.rules.specs.declared.decision.Chosen.{Chosen}
use Rattle.rules.specs.declared.refusal.Refusal.{Refusal}
use Rattle.steps.specs.declared.end.End.{End}
use Rattle.steps.specs.declared.end.End.TheVariants.{Commit, Abort}

-- commit replaces a version, abort removes it
abbrev pub edit_for : End → Chosen → Edit
edit_for Commit = commit_edit
edit_for Abort = abort_edit

-- the edits of one item x
abbrev pub item_edits : End → ℕ → ℕ → ℕ → List Item → List ItemEdit
item_edits e l n x its = cond (level_of its x == l) (end_edit (edit_for e) x (last_that (numbered n) (row_of its x))) []

-- commit or abort
abbrev pub end_call : End → ℕ → ℕ → Parts → State → Outcome (Unit {0})
end_call e l n P s = settled s (ended (edit_for e) s l n) (sender P s l n)

-- what an accepted decision edits; a refused one edits nothing
abbrev pub if_accepted : {A : Type 0} → Result A Refusal → (A → List ItemEdit) → List ItemEdit
if_accepted (Ok a) f = f a
if_accepted (Err e) f = []

abbrev pub read_ruled : ℕ → ℕ → ℕ → Parts → State → List ItemEdit
read_ruled l n x P s = if_accepted (reading P s l n x) (λ r. edits_of x (read_edits r))

abbrev pub write_ruled : ℕ → ℕ → ℕ → ℕ → Parts → State → List ItemEdit
write_ruled l n x v P s = if_accepted (writing P s l n x v) (λ w. edits_of x (write_edits w))

abbrev pub end_ruled : End → ℕ → ℕ → Parts → State → List ItemEdit
end_ruled e l n P s = if_accepted (sender P s l n) (λ _. end_edits (edit_for e) l n 0 s.items)

abbrev pub commit_ruled : ℕ → ℕ → Parts → State → List ItemEdit
commit_ruled = end_ruled Commit

abbrev pub abort_ruled : ℕ → ℕ → Parts → State → List ItemEdit
abort_ruled = end_ruled Abort
