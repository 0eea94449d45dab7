-- What a placement means, and what the three kinds answer. Assumes nothing.
use Rattle.std.specs.Prelude.{◌≡◌, ℕ, ◌<◌, ◌≤◌, min, max, List, length}
use Rattle.std.specs.Option.{unwrap_or}
use Rattle.placements.specs.declared.entry.Entry.{Entry}
use Rattle.placements.specs.Ranks.{stamps, ranked, share}

-- the answer to a degree, a lowest stamp, a highest stamp and a list of transactions
abbrev pub Placing : Type 0
Placing = ℕ → ℕ → ℕ → List Entry → ℕ

-- s lies from lo to hi, and is lo where there is no such number
pub record Within (lo hi s : ℕ) : Type 0 where
  pub low : lo ≤ s
  pub high : lo ≤ hi → s ≤ hi
  pub empty : hi < lo → s ≡ lo

-- s, lowered to hi or raised to lo if it lies outside
abbrev pub kept_within : ℕ → ℕ → ℕ → ℕ
kept_within lo hi s = max lo (min hi s)

-- as far back as allowed
abbrev pub behind : Placing
behind d lo hi es = lo

-- as far forward as allowed
abbrev pub at_clock : Placing
at_clock d lo hi es = kept_within lo hi hi

-- behind the part of the list that the degree leaves, or as far forward as allowed if it leaves none
abbrev pub by_degree : Placing
by_degree d lo hi es = kept_within lo hi (unwrap_or (ranked (stamps es) (share d (length es))) hi)
