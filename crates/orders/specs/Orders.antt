-- What a level order means, and the laws that every one keeps. Assumes nothing.
use Rattle.std.specs.Prelude.{◌≡◌, ℕ, zero, suc, ◌<◌, ◌≤◌, Bool, true, cond, ◌&&◌, ◌==◌}

-- An order of the levels 0 to levels - 1: `dominates a b` says that a may read what stands at b.
pub record Order : Type 0 where
  pub levels : ℕ
  pub dominates : ℕ → ℕ → Bool

-- One to sixteen levels, partially ordered; a number that is no level takes no part.
pub record PartialOrder (o : Order) : Type 0 where
  pub some_level : 1 ≤ o.levels
  pub few_levels : o.levels ≤ 16
  pub reflexive : (a : ℕ) → a < o.levels → o.dominates a a ≡ true
  pub transitive : (a b c : ℕ) → o.dominates a b ≡ true → o.dominates b c ≡ true → o.dominates a c ≡ true
  pub antisymmetric : (a b : ℕ) → o.dominates a b ≡ true → o.dominates b a ≡ true → a ≡ b
  pub upper_level : (a b : ℕ) → o.dominates a b ≡ true → a < o.levels
  pub lower_level : (a b : ℕ) → o.dominates a b ≡ true → b < o.levels

-- every number below n passes
abbrev pub every : ℕ → (ℕ → Bool) → Bool
every zero p = true
every (suc n) p = p n && every n p

abbrev pub implies : Bool → Bool → Bool
implies p q = cond p q true

-- if a dominates b and b dominates c, then a dominates c
abbrev pub transitive_at : Order → ℕ → ℕ → ℕ → Bool
transitive_at o a b c = implies (o.dominates a b && o.dominates b c) (o.dominates a c)

-- if a and b dominate each other, they are the same level
abbrev pub antisymmetric_at : Order → ℕ → ℕ → Bool
antisymmetric_at o a b = implies (o.dominates a b && o.dominates b a) (a == b)

-- the laws of the pair of a and b, and of its triples
abbrev pub lawful_pair : Order → ℕ → ℕ → Bool
lawful_pair o a b = antisymmetric_at o a b && every o.levels (transitive_at o a b)

-- the laws of a, of its pairs and of their triples
abbrev pub lawful_level : Order → ℕ → Bool
lawful_level o a = o.dominates a a && every o.levels (lawful_pair o a)

-- the laws of all levels, as a test
abbrev pub keeps_laws : Order → Bool
keeps_laws o = every o.levels (lawful_level o)
