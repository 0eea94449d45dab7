-- The first fault among numbers that are counted up, as `find_map` over a range finds it. Assumes nothing.
use Rattle.std.proofs.Common.{◌≡◌, ℕ, suc, ◌+◌, ◌-◌, ◌<◌, true, List, [], ◌∷◌, Some, None, Option, sym, refl, ap, ◌∙◌, subst, arith}
use denote.Param.Members.{Mut, Called}
use Rattle.std.specs.declared.ops.Range.{Range}
use Rattle.std.specs.Iterator.{Yields, FindsMapped}
use Rattle.std.specs.Iterator.Runs.{Run, SomeRun, AllItemsGive, IsFirstToGive, YieldsRun}
use Rattle.std.specs.List.{FoldsTo, slice_get}
use Rattle.std.specs.Option.{MatchOption, IfSome}
use Rattle.std.proofs.lemmas.Option.{none-some}
use Rattle.std.specs.Bool.{IsTrue}
use Rattle.std.proofs.iter.Yields.{nat_range_steps}
use Rattle.image.specs.Faults.{either, first}

first_next : (f : ℕ → Option ℕ) (a n m : ℕ) → n ≡ suc m → first f a n ≡ either (f a) (first f (a + 1) m)
first_next f a n m e = ap (first f a) e

-- f finds nothing at z, the first number of s, and t is what is left
passed_over : (f : ℕ → Option ℕ) (s t : Range ℕ) (z : ℕ) → nat_range_steps s (Some z) t → f z ≡ None → first f s.start (s.end - s.start) ≡ first f t.start (t.end - t.start)
passed_over f s t z step none =
    let left : s.end - s.start ≡ suc (t.end - t.start) = omega (arith, step.0, step.1.0, step.1.2) in
    first_next f s.start (s.end - s.start) (t.end - t.start) left
    ∙ ap (λ o. either o (first f (s.start + 1) (t.end - t.start))) (ap f (sym step.1.1) ∙ none)
    ∙ ap (λ a. first f a (t.end - t.start)) (sym step.1.2)

-- f finds y at x, the first number of s
found_at : (f : ℕ → Option ℕ) (s t : Range ℕ) (x y : ℕ) → nat_range_steps s (Some x) t → f x ≡ Some y → first f s.start (s.end - s.start) ≡ Some y
found_at f s t x y step some =
    let left : s.end - s.start ≡ suc (t.end - t.start) = omega (arith, step.0, step.1.0, step.1.2) in
    first_next f s.start (s.end - s.start) (t.end - t.start) left
    ∙ ap (λ o. either o (first f (s.start + 1) (t.end - t.start))) (ap f (sym step.1.1) ∙ some)

-- no number is left
nothing_left : (f : ℕ → Option ℕ) (s t : Range ℕ) → nat_range_steps s None t → first f s.start (s.end - s.start) ≡ None
nothing_left f s t step = ap (first f s.start) step.1.0

module _ {F : Type 0} (g : Mut F (ℕ × Unit {0}) (Option ℕ)) (f : ℕ → Option ℕ) (k : F)
    (call : (x : ℕ) (r : Option ℕ) (q : F) → Called {A = ℕ × Unit {0}} g k (x, tt) r q → (q ≡ k) × (r ≡ f x)) where
  hit : (xs : List ℕ) (s t u : Range ℕ) (j h : F) (x y : ℕ) → Yields nat_range_steps s xs t → FoldsTo (λ p z q. Called {A = ℕ × Unit {0}} g p (z, tt) None q) k xs j
      → nat_range_steps t (Some x) u → Called {A = ℕ × Unit {0}} g j (x, tt) (Some y) h → first f s.start (s.end - s.start) ≡ Some y
  hit [] s t u j h x y came calls step now =
      let here : Called {A = ℕ × Unit {0}} g k (x, tt) (Some y) h = subst (λ p. Called {A = ℕ × Unit {0}} g p (x, tt) (Some y) h) (sym calls) now in
      let next : nat_range_steps s (Some x) u = subst (λ p. nat_range_steps p (Some x) u) (sym came) step in
      found_at f s u x y next (sym (call x (Some y) h here).1)
  hit (z ∷ xs) s t u j h x y came calls step now =
      let c = call z None calls.0 calls.1 in
      passed_over f s came.0 z came.1 (sym c.1)
      ∙ hit xs came.0 t u j h x y came.2 (subst (λ p. FoldsTo (λ p z q. Called {A = ℕ × Unit {0}} g p (z, tt) None q) p xs j) c.0 calls.2) step now

  -- nothing is found at the numbers of a run
  miss : (xs : List ℕ) (s t u : Range ℕ) → Yields nat_range_steps s xs t → nat_range_steps t None u → ((n x : ℕ) → slice_get xs n ≡ Some x → f x ≡ None)
      → first f s.start (s.end - s.start) ≡ None
  miss [] s t u came end none = nothing_left f s u (subst (λ p. nat_range_steps p None u) (sym came) end)
  miss (z ∷ xs) s t u came end none =
      passed_over f s came.0 z came.1 (none 0 z refl) ∙ miss xs came.0 t u came.2 end (λ n x e. none (suc n) x e)

  keeps : (a : ℕ × Unit {0}) (r : Option ℕ) (q : F) → Called g k a r q → q ≡ k
  keeps a r q e = (call a.0 r q e).0

  none_given : (p : Run nat_range_steps) → p.whole ≡ true → AllItemsGive p g k None → first f p.from.start (p.from.end - p.from.start) ≡ None
  unfolding YieldsRun
  none_given p whole all =
      let d = p.gave.0 in
      let e = d.2 whole in
      miss p.items p.from d.0 e.0 d.1 e.1
      (λ n x is. sym (call x None k (subst (λ o. IfSome o (λ z. Called {A = ℕ × Unit {0}} g k (z, tt) None k)) (p.gave.1 n ∙ is) (all keeps n))).1)

  some_found : (s t u : Range ℕ) (xs : List ℕ) (o : Option ℕ) (j : F) (y : ℕ) → Yields nat_range_steps s xs t → nat_range_steps t o u
      → FoldsTo (λ p z q. Called {A = ℕ × Unit {0}} g p (z, tt) None q) k xs j → MatchOption o (Some y ≡ None) (λ x. (h : F) × Called {A = ℕ × Unit {0}} g j (x, tt) (Some y) h)
      → first f s.start (s.end - s.start) ≡ Some y
  some_found s t u xs None j y came step calls end = absurd (none-some y (sym end))
  some_found s t u xs (Some x) j y came step calls end = hit xs s t u j end.0 x y came calls step end.1

  pub first_found : (s u : Range ℕ) (r : Option ℕ) (n : ℕ) → s.end - s.start ≡ n → FindsMapped nat_range_steps g s k r u
      → SomeRun nat_range_steps s (λ p. MatchOption r (IsTrue p.whole × AllItemsGive p g k None) (λ y. (i : ℕ) × (i < p.len) × (p.len ≡ i + 1) × IsFirstToGive p g k (Some y) None i))
      → r ≡ first f s.start n
  first_found s u None n e ran runs =
      let from : runs.0.from ≡ s = runs.1 in
      sym (none_given runs.0 runs.2.0 runs.2.1) ∙ ap (λ (w : Range ℕ). first f w.start (w.end - w.start)) from ∙ ap (first f s.start) e
  first_found s u (Some y) n e ran runs = sym (some_found s ran.3.0 u ran.0 ran.1 ran.2 y ran.3.1 ran.3.2 ran.4 ran.5) ∙ ap (first f s.start) e
