-- What `all` over the numbers below a bound returns, as `every`.
use Rattle.std.proofs.Common.{◌≡◌, List, ℕ, zero, suc, Bool, true, false, ◌&&◌, ◌∷◌, [], Option, MatchOption, map, refl, sym, ap, ◌∙◌, add-one, arith}
use Rattle.std.specs.declared.ops.Range.{Range}
use Rattle.std.specs.Fn.{Called}
use Rattle.std.specs.Iterator.{YieldsThen}
use Rattle.std.specs.List.{FoldsTo, list_all, range_with_len}
use Rattle.std.proofs.iter.Yields.{nat_range_steps}
use Rattle.std.proofs.lemmas.Iterator.{YieldsList-from_range}
use Rattle.std.proofs.lemmas.Iterator.Search.{all_from_yields_List}
use Rattle.std.proofs.lemmas.List.Folds.{list_all-append, list_all-map}
use Rattle.std.proofs.lemmas.List.FromFn.{map-range_with_len_more}
use denote.Param.Members.{Mut}
use Rattle.orders.specs.Orders.{every}

turned : (p q : Bool) → (p && (q && true)) ≡ (q && p)
turned true true = refl
turned true false = refl
turned false true = refl
turned false false = refl

listed : (p : ℕ → Bool) (n : ℕ) → list_all p (map (λ k. k) (range_with_len 0 n)) ≡ every n p
listed p zero = refl
listed p (suc n) =
    let more = map-range_with_len_more (λ k. k) 0 n n (omega arith) in
    ap (list_all p) (rw (add-one n) at more) ∙ list_all-append p (map (λ k. k) (range_with_len 0 n)) (n ∷ [])
    ∙ turned (list_all p (map (λ k. k) (range_with_len 0 n))) (p n) ∙ ap (λ b. p n && b) (listed p n)

pub every_from_all : {F : Type 0} {g : Mut F (ℕ × Unit {0}) Bool} (p : ℕ → Bool) (n : ℕ) (u : Range ℕ) (f : F) (r : Bool)
    → (xs : List ℕ) × (o : Option ℕ) × (j : F) × YieldsThen nat_range_steps (record { start = 0; end = n }) xs o u
    × FoldsTo (λ p x q. Called g p (x, tt) true q) f xs j × MatchOption o (r ≡ true) (λ x. (r ≡ false) × ((h : F) × Called g j (x, tt) false h))
    → ((x : ℕ) (b : Bool) (q : F) → Called g f (x, tt) b q → (q ≡ f) × (b ≡ p x)) → r ≡ every n p
every_from_all p n u f r ran calls =
    all_from_yields_List p u f r ran (YieldsList-from_range 0 n n refl (omega arith)) calls
    ∙ sym (list_all-map p (λ k. k) (range_with_len 0 n)) ∙ listed p n
