-- Members of a list and their places, and members of what a test keeps of it. Assumes nothing.
use Rattle.std.proofs.Common.{◌≡◌, ℕ, zero, suc, ◌≤◌, Bool, true, ◌⊎◌, List, [], ◌∷◌, ◌++◌, length, take, drop, set, Some, filter, sym, refl, ap, ◌∙◌, subst, inl, inr, arith}
use Rattle.std.specs.List.{AllByRecursion, slice_get}
use Rattle.std.proofs.lemmas.Option.{none-some, same_Some}
use Rattle.std.proofs.lemmas.Bool.{cond-true, cond_both}
use Rattle.rules.specs.Members.{In}

-- members of joined lists
pub in_left : {X : Type 0} (x : X) (xs ys : List X) → In x xs → In x (xs ++ ys)
in_left x [] ys i = absurd i
in_left x (z ∷ xs) ys (inl e) = inl e
in_left x (z ∷ xs) ys (inr i) = inr (in_left x xs ys i)

pub in_right : {X : Type 0} (x : X) (xs ys : List X) → In x ys → In x (xs ++ ys)
in_right x [] ys i = i
in_right x (z ∷ xs) ys i = inr (in_right x xs ys i)

pub in_either : {X : Type 0} (x : X) (xs ys : List X) → In x (xs ++ ys) → In x xs ⊎ In x ys
in_either x [] ys i = inr i
in_either x (z ∷ xs) ys (inl e) = inl (inl e)
in_either x (z ∷ xs) ys (inr i) = elim (in_either x xs ys i) [ inl j ↦ inl (inr j) | inr j ↦ inr j ]

-- members by their places
pub nth_of_in : {X : Type 0} (x : X) (xs : List X) → In x xs → (j : ℕ) × (slice_get xs j ≡ Some x)
nth_of_in x [] i = absurd i
nth_of_in x (y ∷ ys) (inl e) = (zero, ap Some e)
nth_of_in x (y ∷ ys) (inr i) = let r = nth_of_in x ys i in (suc r.0, r.1)

pub in_nth : {X : Type 0} (xs : List X) (i : ℕ) (x : X) → slice_get xs i ≡ Some x → In x xs
in_nth [] i x h = absurd (none-some x h)
in_nth (y ∷ ys) zero x h = inl (same_Some y x h)
in_nth (y ∷ ys) (suc i) x h = inr (in_nth ys i x h)

pub nth_of_drop : {X : Type 0} (x : X) (n : ℕ) (xs : List X) → In x (drop n xs) → (j : ℕ) × (n ≤ j) × (slice_get xs j ≡ Some x)
nth_of_drop x zero xs i = let r = nth_of_in x xs i in (r.0, omega arith, r.1)
nth_of_drop x (suc n) [] i = absurd i
nth_of_drop x (suc n) (y ∷ ys) i = let r = nth_of_drop x n ys i in (suc r.0, omega (arith, r.1), r.2)

-- the list, split where x stands
pub split_at : {X : Type 0} (xs : List X) (i : ℕ) (x : X) → slice_get xs i ≡ Some x → xs ≡ take i xs ++ x ∷ drop (suc i) xs
split_at [] i x h = absurd (none-some x h)
split_at (y ∷ ys) zero x h = ap (λ z. z ∷ ys) (same_Some y x h)
split_at (y ∷ ys) (suc i) x h = ap (λ zs. y ∷ zs) (split_at ys i x h)

pub take_to : {X : Type 0} (xs : List X) (i : ℕ) (x : X) → slice_get xs i ≡ Some x → take (suc i) xs ≡ take i xs ++ x ∷ []
take_to [] i x h = absurd (none-some x h)
take_to (y ∷ ys) zero x h = ap (λ z. z ∷ []) (same_Some y x h)
take_to (y ∷ ys) (suc i) x h = ap (λ zs. y ∷ zs) (take_to ys i x h)

-- members of a list around one place
pub in_here : {X : Type 0} (x : X) (xs ys : List X) → In x (xs ++ x ∷ ys)
in_here x xs ys = in_right x xs (x ∷ ys) (inl refl)

pub in_around : {X : Type 0} (u x : X) (xs ys : List X) → In u (xs ++ ys) → In u (xs ++ x ∷ ys)
in_around u x xs ys i = elim (in_either u xs ys i) [ inl j ↦ in_left u xs (x ∷ ys) j | inr j ↦ in_right u xs (x ∷ ys) (inr j) ]

pub in_middle : {X : Type 0} (u x : X) (xs ys : List X) → In u (xs ++ x ∷ ys) → (x ≡ u) ⊎ In u (xs ++ ys)
in_middle u x xs ys i =
    elim (in_either u xs (x ∷ ys) i) [
      | inl j ↦ inr (in_left u xs ys j)
      | inr j ↦ elim j [ inl e ↦ inl e | inr k ↦ inr (in_right u xs ys k) ]
    ]

pub in_some : {X : Type 0} (x : X) (xs : List X) → In x xs → 1 ≤ length xs
in_some x [] i = absurd i
in_some x (y ∷ ys) i = omega arith

-- a place that is set, and the others
pub nth_set_same : {X : Type 0} (xs : List X) (i : ℕ) (x a : X) → slice_get xs i ≡ Some x → slice_get (set xs i a) i ≡ Some a
nth_set_same [] i x a h = absurd (none-some x h)
nth_set_same (y ∷ ys) zero x a h = refl
nth_set_same (y ∷ ys) (suc i) x a h = nth_set_same ys i x a h

pub nth_set_other : {X : Type 0} (xs : List X) (i j : ℕ) (a : X) → (j ≡ i → ⊥) → slice_get (set xs i a) j ≡ slice_get xs j
nth_set_other [] i j a d = refl
nth_set_other (y ∷ ys) zero zero a d = absurd (d refl)
nth_set_other (y ∷ ys) zero (suc j) a d = refl
nth_set_other (y ∷ ys) (suc i) zero a d = refl
nth_set_other (y ∷ ys) (suc i) (suc j) a d = nth_set_other ys i j a (λ e. d (ap suc e))

module _ {X : Type 0} where
  -- what holds of all holds of each
  pub all_in : (P : X → Type 0) (xs : List X) (x : X) → AllByRecursion P xs → In x xs → P x
  all_in P [] x a i = absurd i
  all_in P (y ∷ ys) x a (inl e) = subst P e a.0
  all_in P (y ∷ ys) x a (inr i) = all_in P ys x a.1 i

  pub all_from_in : (P : X → Type 0) (xs : List X) → ((x : X) → In x xs → P x) → AllByRecursion P xs
  all_from_in P [] f = tt
  all_from_in P (y ∷ ys) f = (f y (inl refl), all_from_in P ys (λ x i. f x (inr i)))

  -- the members that pass a test
  pub in_kept : (p : X → Bool) (xs : List X) (x : X) → In x xs → p x ≡ true → In x (filter p xs)
  in_kept p [] x i t = absurd i
  in_kept p (y ∷ ys) x (inl e) t =
      subst (In x) (sym (cond-true (p y) (y ∷ filter p ys) (filter p ys) (ap p e ∙ t))) (inl e)
  in_kept p (y ∷ ys) x (inr i) t =
      cond_both (p y) (y ∷ filter p ys) (filter p ys) (In x) (λ _. inr (in_kept p ys x i t)) (λ _. in_kept p ys x i t)

  -- a member of the kept ones, and that it passed
  pub kept_in : (p : X → Bool) (xs : List X) (x : X) → In x (filter p xs) → In x xs × (p x ≡ true)
  kept_in p [] x = λ i. absurd i
  kept_in p (y ∷ ys) x =
      cond_both (p y) (y ∷ filter p ys) (filter p ys) (λ zs. In x zs → In x (y ∷ ys) × (p x ≡ true))
      (λ t. λ i. elim i [
        | inl e ↦ (inl e, sym (ap p e) ∙ t)
        | inr j ↦ let r = kept_in p ys x j in (inr r.0, r.1)
      ])
      (λ _. λ i. let r = kept_in p ys x i in (inr r.0, r.1))
