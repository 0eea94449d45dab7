-- Checks of items one after the other, up to the first that is refused. Assumes nothing.
use Rattle.std.proofs.Common.{◌≡◌, ℕ, List, [], ◌∷◌, Some, None, Ok, Err, Option, Result, MatchOption, is_ok, refl, sym, ap, ◌∙◌, subst}
use Rattle.std.specs.declared.ops.ControlFlow.TheVariants.{Break}
use Rattle.std.specs.Fn.{Mut, Called}
use Rattle.std.specs.Iterator.{AlwaysYields, YieldsThen, TryForEachTurn, TryCallsOnEach}
use Rattle.std.specs.List.{FoldsTo}
use Rattle.std.specs.Result.{IsErr, IsErrAnd, result_from_control_flow}
use Rattle.std.proofs.lemmas.Bool.{false≢true}
use Rattle.std.proofs.lemmas.Iterator.{YieldsList}
use Rattle.image.specs.declared.layout.LayoutFault.{LayoutFault}
use Rattle.image.specs.Faults.{either}
use Rattle.image.specs.Laid.{laid_answer}

-- the first fault that h finds in a list
abbrev pub first_of : {B : Type 0} → (B → Option ℕ) → List B → Option ℕ
first_of h [] = None
first_of h (y ∷ ys) = either (h y) (first_of h ys)

abbrev pub Answer : Type 0
Answer = Result (Unit {0}) LayoutFault

passed : (o : Option ℕ) → Ok tt ≡ laid_answer o → o ≡ None
passed None a = refl
passed (Some at) a = absurd (false≢true (sym (ap is_ok a)))

refused : (o next : Option ℕ) (r : Answer) (y : LayoutFault) → Err y ≡ laid_answer o → IsErr r × IsErrAnd r (λ z. z ≡ y) → r ≡ laid_answer (either o next)
refused None next r y a s = absurd (false≢true (ap is_ok a))
refused (Some at) next (Ok x) y a s = absurd s.1
refused (Some at) next (Err z) y a s = ap Err s.1 ∙ a

-- calls at the items of a list, in order, each of which answers by h and changes nothing
module _ {S A B F : Type 0} (steps : S → Option A → S → Type 0) (v : A → B) (g : Mut F (A × Unit {0}) Answer)
    (h : B → Option ℕ) (f : F) (calls : (x : A) (w : Answer) (q : F) → Called g f (x, tt) w q → (q ≡ f) × (w ≡ laid_answer (h (v x)))) where
  tried : (all : List B) (xs : List A) (o : Option A) (s u : S) (p : F) (r : Answer) → AlwaysYields steps v s all → YieldsThen steps s xs o u
      → FoldsTo (TryForEachTurn g (λ w c. w ≡ result_from_control_flow c)) f xs p
      → MatchOption o (r ≡ Ok tt) (λ x. (w : Answer) × (k : F) × (e : _) × Called g p (x, tt) w k × (w ≡ result_from_control_flow (Break e)) × (IsErr r × IsErrAnd r (λ z. z ≡ e.0)))
      → r ≡ laid_answer (first_of h all)
  tried [] [] None s u p r a y c m = m
  tried (z ∷ all) [] None s u p r a y c m = absurd (a.0 u (subst (λ t. steps t None u) (sym y.1) y.2))
  tried [] [] (Some x) s u p r a y c m = absurd (a x u (subst (λ t. steps t (Some x) u) (sym y.1) y.2))
  tried (z ∷ all) [] (Some x) s u p r a y c m =
      let is : v x ≡ z = (a.1 x u (subst (λ t. steps t (Some x) u) (sym y.1) y.2)).0 in
      let call = calls x m.0 m.1 (subst (λ q. Called g q (x, tt) m.0 m.1) (sym c) m.3) in
      refused (h z) (first_of h all) r m.2.0 (sym m.4 ∙ call.1 ∙ ap (λ b. laid_answer (h b)) is) m.5
  tried [] (x ∷ xs) o s u p r a y c m = absurd (a x y.1.0 y.1.1)
  tried (z ∷ all) (x ∷ xs) o s u p r a y c m =
      let is = a.1 x y.1.0 y.1.1 in
      let call = calls x c.1.0 c.0 c.1.1 in
      let none : h z ≡ None = passed (h z) (sym c.1.2 ∙ call.1 ∙ ap (λ b. laid_answer (h b)) is.0) in
      tried all xs o y.1.0 u p r is.1 (y.0, y.1.2, y.2) (subst (λ q. FoldsTo (TryForEachTurn g (λ w c. w ≡ result_from_control_flow c)) q xs p) call.0 c.2) m
      ∙ ap (λ i. laid_answer (either i (first_of h all))) (sym none)

-- what `try_for_each` answers
pub first_from_try_for_each : {S A B F : Type 0} {steps : S → Option A → S → Type 0} {v : A → B} {g : Mut F (A × Unit {0}) Answer} {s : S} {all : List B} (h : B → Option ℕ) (f : F) (u : S) (r : Answer)
    → TryCallsOnEach steps g (λ w c. w ≡ result_from_control_flow c) (λ e w. IsErr w × IsErrAnd w (λ z. z ≡ e.0)) s f r u
    → YieldsList steps v s all → ((x : A) (w : Answer) (q : F) → Called g f (x, tt) w q → (q ≡ f) × (w ≡ laid_answer (h (v x)))) → r ≡ laid_answer (first_of h all)
first_from_try_for_each {steps = steps} {v = v} {g = g} {s = s} {all = all} h f u r t e calls =
    tried steps v g h f calls all t.0 t.1 s u t.2 r e.runs t.3 t.4 t.5
