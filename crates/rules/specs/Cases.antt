-- Worked cases of the rules, as one list. Assumes nothing.
use Rattle.std.specs.Prelude.{◌≡◌, ℕ, Bool, true, List, [], ◌∷◌, ◌++◌, map}
use Rattle.std.specs.List.{AllByRecursion}
use Rattle.orders.specs.Cases.{walls_keep_apart}
use Rattle.orders.specs.Chains.{chain}
use Rattle.placements.specs.Cases.{share_rounds_up, degrees_pass_over}
use Rattle.placements.specs.Placings.{behind}
use Rattle.shelves.specs.Items.{Item, first_item, row_of}
use Rattle.rules.specs.Answers.{Answer, answer_number, answer_values}
use Rattle.rules.specs.Runs.{run}
use Rattle.rules.specs.Starts.{start}
use Rattle.rules.specs.States.{Parts}
use Rattle.rules.specs.declared.call.Call.{Call}
use Rattle.rules.specs.declared.call.Call.TheVariants.{Begin, Read, Write, Commit}

-- one level, and a placement as far back as allowed
abbrev pub one_level : Parts
one_level = record { order = chain 1; placing = behind }

-- one item of that level, with the first value 100
abbrev pub one_item : List Item
one_item = first_item 0 100 ∷ []

-- an answer as it is printed: its number, then the values
abbrev pub printed : Answer → List ℕ
printed r = answer_number r ∷ answer_values r

-- a fact that computes, or calls with the answers printed and the numbers of the versions that stand in the item's row afterwards
pub data Case : Type 0 where
  fact : Bool → Case
  calls : List Call → List (List ℕ) → List ℕ → Case

-- these calls get these answers, and leave versions with these numbers
abbrev pub Comes : (cs : List Call) (lines : List (List ℕ)) (numbers : List ℕ) → Type 0
Comes cs lines numbers =
    (map printed (run one_level (start (chain 1) one_item) cs).0 ≡ lines)
    × (map (λ v. v.number) (row_of (run one_level (start (chain 1) one_item) cs).1.items 0) ≡ numbers)

abbrev pub Holds : Case → Type 0
Holds (fact b) = b ≡ true
Holds (calls cs lines numbers) = Comes cs lines numbers

-- a transaction that writes and commits
abbrev pub whole : ℕ → List Call
whole n = Begin 0 0 ∷ Write 0 n 0 n ∷ Commit 0 n ∷ []

abbrev pub cases : List Case
cases =
    fact walls_keep_apart
    ∷ fact share_rounds_up
    ∷ fact degrees_pass_over
    -- the second of two transactions reads the item: the first may not write it any more, the second may
    ∷ calls (Begin 0 0 ∷ Begin 0 0 ∷ Read 0 2 0 ∷ Write 0 1 0 1 ∷ Write 0 2 0 2 ∷ [])
    ((0 ∷ 1 ∷ 1 ∷ []) ∷ (0 ∷ 2 ∷ 1 ∷ []) ∷ (0 ∷ 100 ∷ []) ∷ (15 ∷ []) ∷ (0 ∷ []) ∷ [])
    (0 ∷ 2 ∷ [])
    -- seven pending versions above the first one: the eighth writer is refused
    ∷ calls
    (Begin 0 0 ∷ Begin 0 0 ∷ Begin 0 0 ∷ Begin 0 0 ∷ Begin 0 0 ∷ Begin 0 0 ∷ Begin 0 0 ∷ Begin 0 0
    ∷ Write 0 1 0 1 ∷ Write 0 2 0 2 ∷ Write 0 3 0 3 ∷ Write 0 4 0 4 ∷ Write 0 5 0 5 ∷ Write 0 6 0 6 ∷ Write 0 7 0 7 ∷ Write 0 8 0 8 ∷ [])
    ((0 ∷ 1 ∷ 1 ∷ []) ∷ (0 ∷ 2 ∷ 1 ∷ []) ∷ (0 ∷ 3 ∷ 1 ∷ []) ∷ (0 ∷ 4 ∷ 1 ∷ []) ∷ (0 ∷ 5 ∷ 1 ∷ []) ∷ (0 ∷ 6 ∷ 1 ∷ []) ∷ (0 ∷ 7 ∷ 1 ∷ []) ∷ (0 ∷ 8 ∷ 1 ∷ [])
    ∷ (0 ∷ []) ∷ (0 ∷ []) ∷ (0 ∷ []) ∷ (0 ∷ []) ∷ (0 ∷ []) ∷ (0 ∷ []) ∷ (0 ∷ []) ∷ (16 ∷ []) ∷ [])
    (0 ∷ 1 ∷ 2 ∷ 3 ∷ 4 ∷ 5 ∷ 6 ∷ 7 ∷ [])
    -- seven committed versions above the first one: the next write drops the first
    ∷ calls
    (whole 1 ++ (whole 2 ++ (whole 3 ++ (whole 4 ++ (whole 5 ++ (whole 6 ++ (whole 7 ++ whole 8)))))))
    ((0 ∷ 1 ∷ 1 ∷ []) ∷ (0 ∷ []) ∷ (0 ∷ []) ∷ (0 ∷ 2 ∷ 1 ∷ []) ∷ (0 ∷ []) ∷ (0 ∷ []) ∷ (0 ∷ 3 ∷ 1 ∷ []) ∷ (0 ∷ []) ∷ (0 ∷ [])
    ∷ (0 ∷ 4 ∷ 1 ∷ []) ∷ (0 ∷ []) ∷ (0 ∷ []) ∷ (0 ∷ 5 ∷ 1 ∷ []) ∷ (0 ∷ []) ∷ (0 ∷ []) ∷ (0 ∷ 6 ∷ 1 ∷ []) ∷ (0 ∷ []) ∷ (0 ∷ [])
    ∷ (0 ∷ 7 ∷ 1 ∷ []) ∷ (0 ∷ []) ∷ (0 ∷ []) ∷ (0 ∷ 8 ∷ 1 ∷ []) ∷ (0 ∷ []) ∷ (0 ∷ []) ∷ [])
    (1 ∷ 2 ∷ 3 ∷ 4 ∷ 5 ∷ 6 ∷ 7 ∷ 8 ∷ [])
    ∷ []

abbrev pub WorkedCasesHold : Type 0
WorkedCasesHold = AllByRecursion Holds cases
