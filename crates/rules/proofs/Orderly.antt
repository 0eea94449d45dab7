-- Any transactions can be put into a running order: sorted by stamp, then by how many levels theirs dominates, the most
-- first, then by level and number. Assumes nothing.
use Rattle.std.proofs.Common.{◌≡◌, ℕ, zero, suc, ◌+◌, ◌<◌, ◌≤◌, Bool, true, false, not, eqb, ◌⊎◌, List, [], ◌∷◌, sym, refl, ap, ◌∙◌, subst, inl, inr, arith}
use Rattle.std.specs.List.{AllByRecursion}
use Rattle.std.proofs.ByRecursion.{All-weaker}
use Rattle.std.proofs.lemmas.Bool.{and_parts, not-true, eqb-false, cases_eq, cases_Bool, cases_order, both_ways}
use Rattle.orders.specs.Orders.{Order, PartialOrder}
use Rattle.rules.specs.Members.{In}
use Rattle.rules.specs.Serial.{Transaction, Before, Ordered, RunningOrder}
use Rattle.rules.specs.Watermarks.{strictly_dominates}
use Rattle.rules.proofs.Inside.{all_in, all_from_in}

-- how many numbers below n pass
abbrev one_if : Bool → ℕ
one_if true = 1
one_if false = 0

abbrev passing : ℕ → (ℕ → Bool) → ℕ
passing zero p = 0
passing (suc n) p = one_if (p n) + passing n p

one_more : (b c : Bool) → (b ≡ true → c ≡ true) → one_if b ≤ one_if c
one_more true true f = omega arith
one_more true false f = absurd (both_ways false refl (f refl))
one_more false c f = omega arith

more_pass : (n : ℕ) (p q : ℕ → Bool) → ((k : ℕ) → p k ≡ true → q k ≡ true) → passing n p ≤ passing n q
more_pass zero p q f = omega arith
more_pass (suc n) p q f = omega (arith, one_more (p n) (q n) (f n), more_pass n p q f)

-- where q passes one that p does not
one_new : (b c : Bool) → b ≡ false → c ≡ true → one_if b < one_if c
one_new b c e d = omega (arith, ap one_if e, ap one_if d)

new_passes : (n a : ℕ) (p q : ℕ → Bool) → a < n → ((k : ℕ) → p k ≡ true → q k ≡ true) → p a ≡ false → q a ≡ true → passing n p < passing n q
new_passes zero a p q l f e d = absurd (omega arith)
new_passes (suc n) a p q l f e d =
    elim (cases_eq n a) [
      | inl s ↦ omega (arith, one_new (p n) (q n) (ap p s ∙ e) (ap q s ∙ d), more_pass n p q f)
      | inr s ↦ omega (arith, one_more (p n) (q n) (f n), new_passes n a p q (omega arith) f e d)
    ]

-- by the first numbers, and where these are equal, by the rest
abbrev Lex : ℕ → ℕ → Type 0 → Type 0
Lex a b R = (a < b) ⊎ ((a ≡ b) × R)

lex_le : {R : Type 0} (a b : ℕ) → Lex a b R → a ≤ b
lex_le a b (inl l) = omega arith
lex_le a b (inr e) = omega (arith, e.0)

lex_rest : {R : Type 0} (a b : ℕ) → Lex a b R → a ≡ b → R
lex_rest a b (inl l) e = absurd (omega arith)
lex_rest a b (inr r) e = r.1

lex_trans : {R S T : Type 0} (a b c : ℕ) → (R → S → T) → Lex a b R → Lex b c S → Lex a c T
lex_trans a b c f (inl l) s = inl (omega (arith, lex_le b c s))
lex_trans a b c f (inr r) (inl l) = inl (omega (arith, r.0))
lex_trans a b c f (inr r) (inr s) = inr (r.0 ∙ s.0, f r.1 s.1)

lex_cases : {R S T : Type 0} (a b : ℕ) → T ⊎ (R ⊎ S) → ((a ≡ b) × T) ⊎ (Lex a b R ⊎ Lex b a S)
lex_cases a b d =
    elim (cases_order a b) [
      | inl e ↦ elim d [
        | inl t ↦ inl (e, t)
        | inr g ↦ elim g [ inl r ↦ inr (inl (inr (e, r))) | inr s ↦ inr (inr (inr (sym e, s))) ]
      ]
      | inr g ↦ elim g [ inl l ↦ inr (inl (inl l)) | inr l ↦ inr (inr (inl l)) ]
    ]

module _ (o : Order) where
  -- how many levels l dominates
  abbrev rank : ℕ → ℕ
  rank l = passing o.levels (o.dominates l)

  dominating_ranks : PartialOrder o → (a b : ℕ) → strictly_dominates o a b ≡ true → rank b < rank a
  dominating_ranks laws a b s =
      let p = and_parts (o.dominates a b) (not (eqb a b)) s in
      let other : a ≡ b → ⊥ = eqb-false a b (not-true (eqb a b) p.1) in
      let top : a < o.levels = laws.upper_level a b p.0 in
      let new : o.dominates b a ≡ false = elim (cases_Bool (o.dominates b a)) [
        | inl t ↦ absurd (other (laws.antisymmetric a b p.0 t))
        | inr t ↦ t
      ] in
      new_passes o.levels a (o.dominates b) (o.dominates a) top (λ k. laws.transitive a b k p.0) new (laws.reflexive a top)

  abbrev Sooner : Transaction → Transaction → Type 0
  Sooner u w = Lex u.stamp w.stamp (Lex (rank w.level) (rank u.level) (Lex u.level w.level (u.number < w.number)))

  sooner_trans : (u v w : Transaction) → Sooner u v → Sooner v w → Sooner u w
  sooner_trans u v w =
      lex_trans u.stamp v.stamp w.stamp
      (λ p q. lex_trans (rank w.level) (rank v.level) (rank u.level)
      (λ s r. lex_trans u.level v.level w.level (λ k l. omega arith) r s)
      q p)

  sooner_cases : (u w : Transaction) → (u ≡ w) ⊎ (Sooner u w ⊎ Sooner w u)
  sooner_cases u w =
      elim (lex_cases u.stamp w.stamp
      (lex_cases (rank w.level) (rank u.level)
      (lex_cases u.level w.level (cases_order u.number w.number)))) [
        | inl e ↦ inl (λ i. record { level = e.1.1.0 i; number = e.1.1.1 i; stamp = e.0 i })
        | inr d ↦ inr d
      ]

  -- each stands before all behind it
  abbrev Sorted : List Transaction → Type 0
  Sorted [] = Unit {0}
  Sorted (u ∷ us) = AllByRecursion (Sooner u) us × Sorted us

  -- vs are the members of us, sorted
  record SortedFrom (us vs : List Transaction) : Type 0 where
    all_there : (u : Transaction) → In u us → In u vs
    no_other : (u : Transaction) → In u vs → In u us
    sorted : Sorted vs

  -- u goes somewhere behind w
  behind : (u w : Transaction) (ws : List Transaction) → Sooner w u → Sorted (w ∷ ws)
      → (vs : List Transaction) × SortedFrom (u ∷ ws) vs → (vs : List Transaction) × SortedFrom (u ∷ w ∷ ws) vs
  behind u w ws l s r = (
    w ∷ r.0,
    record {
      all_there = λ x i. elim i [
        | inl e ↦ inr (r.1.all_there x (inl e))
        | inr j ↦ elim j [ inl e ↦ inl e | inr k ↦ inr (r.1.all_there x (inr k)) ]
      ];
      no_other = λ x i. elim i [
        | inl e ↦ inr (inl e)
        | inr j ↦ elim (r.1.no_other x j) [ inl e ↦ inl e | inr k ↦ inr (inr k) ]
      ];
      sorted = (
        all_from_in (Sooner w) r.0 (λ x i. elim (r.1.no_other x i) [
          | inl e ↦ subst (Sooner w) e l
          | inr j ↦ all_in (Sooner w) ws x s.0 j
        ]),
        r.1.sorted,
      );
    },
  )

  place : (u : Transaction) (ws : List Transaction) → Sorted ws → (vs : List Transaction) × SortedFrom (u ∷ ws) vs
  place u [] s = (u ∷ [], record { all_there = λ x i. i; no_other = λ x i. i; sorted = (tt, tt) })
  place u (w ∷ ws) s =
      elim (sooner_cases u w) [
        | inl e ↦ (
          w ∷ ws,
          record {
            all_there = λ x i. elim i [ inl q ↦ inl (sym e ∙ q) | inr j ↦ j ];
            no_other = λ x i. inr i;
            sorted = s;
          },
        )
        | inr d ↦ elim d [
          | inl l ↦ (
            u ∷ w ∷ ws,
            record {
              all_there = λ x i. i;
              no_other = λ x i. i;
              sorted = ((l, All-weaker (Sooner w) (Sooner u) (λ x. sooner_trans u w x l) ws s.0), s);
            },
          )
          | inr l ↦ behind u w ws l s (place u ws s.1)
        ]
      ]

  sort : (cs : List Transaction) → (vs : List Transaction) × SortedFrom cs vs
  sort [] = ([], record { all_there = λ x i. i; no_other = λ x i. i; sorted = tt })
  sort (c ∷ cs) =
      let r = sort cs in
      let q = place c r.0 r.1.sorted in (
        q.0,
        record {
          all_there = λ x i. q.1.all_there x (elim i [ inl e ↦ inl e | inr j ↦ inr (r.1.all_there x j) ]);
          no_other = λ x i. elim (q.1.no_other x i) [ inl e ↦ inl e | inr j ↦ inr (r.1.no_other x j) ];
          sorted = q.1.sorted;
        },
      )

  same_level : (u w : Transaction) → Sooner u w → u.level ≡ w.level → u.stamp ≡ w.stamp → u.number < w.number
  same_level u w s l t =
      lex_rest u.level w.level (lex_rest (rank w.level) (rank u.level) (lex_rest u.stamp w.stamp s t) (ap rank (sym l))) l

  module _ (laws : PartialOrder o) (cs : List Transaction)
      (stamps : (u w : Transaction) → In u cs → In w cs → u.level ≡ w.level → u.number < w.number → u.stamp ≤ w.stamp)
      (once : (u w : Transaction) → In u cs → In w cs → u.level ≡ w.level → u.number ≡ w.number → u ≡ w) where
    dominating_first : (u w : Transaction) → Sooner u w → u.stamp ≡ w.stamp → strictly_dominates o w.level u.level ≡ false
    dominating_first u w s t =
        elim (cases_Bool (strictly_dominates o w.level u.level)) [
          | inl d ↦ absurd (omega (arith, dominating_ranks laws w.level u.level d, lex_le (rank w.level) (rank u.level) (lex_rest u.stamp w.stamp s t)))
          | inr d ↦ d
        ]

    begin_order : (u w : Transaction) → In u cs → In w cs → Sooner u w → u.level ≡ w.level → u.number < w.number
    begin_order u w i j s l =
        elim (cases_order u.number w.number) [
          | inl e ↦ same_level u w s l (ap (λ (x : Transaction). x.stamp) (once u w i j l e))
          | inr d ↦ elim d [
            | inl b ↦ b
            | inr b ↦ same_level u w s l (omega (arith, lex_le u.stamp w.stamp s, stamps w u j i (sym l) b))
          ]
        ]

    sooner_before : (u w : Transaction) → In u cs → In w cs → Sooner u w → Before o u w
    sooner_before u w i j s =
        record { stamps = lex_le u.stamp w.stamp s; dominating_first = dominating_first u w s; begin_order = begin_order u w i j s }

    ordered_sorted : (us : List Transaction) → ((x : Transaction) → In x us → In x cs) → Sorted us → Ordered o us
    ordered_sorted [] f s = tt
    ordered_sorted (u ∷ us) f s = (
      all_from_in (Before o u) us (λ w i. sooner_before u w (f u (inl refl)) (f w (inr i)) (all_in (Sooner u) us w s.0 i)),
      ordered_sorted us (λ x i. f x (inr i)) s.1,
    )

-- transactions that began in the order of their stamps inside each level, each under a number of its own, have a running
-- order
pub order_exists : (o : Order) → PartialOrder o → (cs : List Transaction)
    → ((u w : Transaction) → In u cs → In w cs → u.level ≡ w.level → u.number < w.number → u.stamp ≤ w.stamp)
    → ((u w : Transaction) → In u cs → In w cs → u.level ≡ w.level → u.number ≡ w.number → u ≡ w)
    → (us : List Transaction) × RunningOrder o cs us
order_exists o laws cs stamps once =
    let r = sort o cs in (
      r.0,
      record {
        all_there = r.1.all_there;
        no_other = r.1.no_other;
        ordered = ordered_sorted o laws cs stamps once r.0 r.1.no_other r.1.sorted;
      },
    )
