-- The examples of the laws are runs from starts. Assumes nothing.
use Rattle.std.proofs.Common.{◌≡◌, ℕ, zero, suc, ◌≤◌, Bool, true, false, ◌&&◌, ltb, leb, List, [], ◌∷◌, get_or, sym, refl, ◌∙◌, subst, inl, inr, arith}
use Rattle.std.proofs.lemmas.Bool.{and_left, lt-leb, le-ltb, false≢true}
use Rattle.orders.specs.Bits.{bit}
use Rattle.orders.specs.Chains.{chain}
use Rattle.orders.specs.Orders.{PartialOrder}
use Rattle.orders.specs.Tables.{tabled}
use Rattle.orders.specs.TabledLemmas.{passed_lawful}
use Rattle.placements.specs.Placings.{at_clock, Within}
use Rattle.placements.specs.declared.entry.Entry.{Entry}
use Rattle.shelves.specs.Items.{level_of, row_of}
use Rattle.rules.specs.Examples.{line, grid, begins_line, begins_grid, HiddenCallsAreCompared, CommittedReaderAbove}

-- a level above 1 is dominated by neither level
not_below : (a b : ℕ) → a ≤ 1 → leb (suc (suc b)) a ≡ (ltb (suc (suc b)) 2 && bit (get_or (1 ∷ 3 ∷ []) a 0) (suc (suc b)))
not_below a b h =
    lt-leb (suc (suc b)) a (omega arith)
    ∙ sym (and_left (ltb (suc (suc b)) 2) (bit (get_or (1 ∷ 3 ∷ []) a 0) (suc (suc b))) (le-ltb (suc (suc b)) 2 (omega arith)))

no_level : (a b : ℕ) (p q : Bool) → (ltb (suc (suc a)) 2 && p) ≡ (ltb (suc (suc a)) 2 && q)
no_level a b p q =
    let none : ltb (suc (suc a)) 2 ≡ false = le-ltb (suc (suc a)) 2 (omega arith) in
    and_left (ltb (suc (suc a)) 2) p none ∙ sym (and_left (ltb (suc (suc a)) 2) q none)

same_order : (a b : ℕ) → (chain 2).dominates a b ≡ (tabled 2 (1 ∷ 3 ∷ [])).dominates a b
same_order zero zero = refl
same_order zero (suc zero) = refl
same_order zero (suc (suc b)) = not_below 0 b (omega arith)
same_order (suc zero) zero = refl
same_order (suc zero) (suc zero) = refl
same_order (suc zero) (suc (suc b)) = not_below 1 b (omega arith)
same_order (suc (suc a)) b = no_level a b _ _

grid_lawful : PartialOrder grid.order
grid_lawful = passed_lawful 2 (1 ∷ 3 ∷ []) (omega arith) (omega arith) refl

line_lawful : PartialOrder line.order
line_lawful =
    let same : grid.order ≡ line.order = λ i. record { levels = 2; dominates = λ a b. sym (same_order a b) i } in
    subst PartialOrder same grid_lawful

clock_within : (d lo hi : ℕ) (es : List Entry) → Within lo hi (at_clock d lo hi es)
clock_within d lo hi es = record { low = omega arith; high = λ h. omega arith; empty = λ h. omega arith }

pub hidden_calls_are_compared : HiddenCallsAreCompared
hidden_calls_are_compared = record {
  line_starts = record {
    lawful = record { order = line_lawful; placing = clock_within };
    shelf = record { few = omega arith; ruled = (refl, (refl, tt)) };
    fit = refl;
    fresh = refl;
  };
  grid_starts = record {
    lawful = record { order = grid_lawful; placing = clock_within };
    shelf = record { few = omega arith; ruled = (refl, (refl, tt)) };
    fit = refl;
    fresh = refl;
  };
  same_parts = record { levels = refl; dominates = same_order; placing = λ d lo hi es. refl };
  same_rows = rows;
  same_calls = refl;
  hidden = refl;
  hidden_accepted = refl;
}
  where
    rows : (x : ℕ) → (chain 2).dominates 0 (level_of begins_line.items x) ≡ true
        → row_of begins_line.items x ≡ row_of begins_grid.items x
    rows zero h = refl
    rows (suc zero) h = absurd (false≢true h)
    rows (suc (suc x)) h = refl

pub committed_reader_above : CommittedReaderAbove
committed_reader_above = record { committed = inl refl; read_below = inr (inr (inl refl)); item_level = refl }
