-- A row in order, as versions each of which precedes all that follow. Assumes nothing.
use Rattle.std.proofs.Common.{◌≡◌, ◌<◌, ◌≤◌, true, ◌&&◌, ltb, leb, ◌⊎◌, List, [], ◌∷◌, ◌++◌, length, sym, refl, ap, ◌∙◌, subst, inl, inr, arith}
use Rattle.std.proofs.lemmas.Bool.{and_parts, and_from, or_cases, or_left, or_right, leb-true, ltb-true, le-leb, lt-ltb, false≢true}
use Rattle.shelves.specs.Rows.{is_committed, goes_before, leads, in_order, any_committed, keeps_rule}
use Rattle.shelves.specs.declared.version.State.{State}
use Rattle.shelves.specs.declared.version.State.TheVariants.{Committed, Pending}
use Rattle.shelves.specs.declared.version.Version.{Version}
use Rattle.rules.specs.Members.{In}
use Rattle.rules.proofs.Inside.{in_left, in_right, in_either}

-- v stands somewhere before w
pub record Precedes (v w : Version) : Type 0 where
  pub number : v.number < w.number
  pub stamp : v.stamp ≤ w.stamp

precedes_from : (v w : Version) → goes_before v w ≡ true → Precedes v w
precedes_from v w h =
    let p = and_parts (ltb v.number w.number) (leb v.stamp w.stamp) h in
    record { number = ltb-true v.number w.number p.0; stamp = leb-true v.stamp w.stamp p.1 }

goes_from : (v w : Version) → Precedes v w → goes_before v w ≡ true
goes_from v w b =
    and_from (ltb v.number w.number) (leb v.stamp w.stamp)
    (lt-ltb v.number w.number b.number) (le-leb v.stamp w.stamp b.stamp)

abbrev pub Ordered : List Version → Type 0
Ordered [] = Unit {0}
Ordered (v ∷ vs) = ((w : Version) → In w vs → Precedes v w) × Ordered vs

leads_all : (v : Version) (vs : List Version) → leads v vs ≡ true → Ordered vs → (w : Version) → In w vs → Precedes v w
leads_all v [] l o w i = absurd i
leads_all v (x ∷ xs) l o w (inl e) = subst (λ y. Precedes v y) e (precedes_from v x l)
leads_all v (x ∷ xs) l o w (inr i) =
    let near = precedes_from v x l in
    let far = o.0 w i in
    record { number = omega (arith, near.number, far.number); stamp = omega (arith, near.stamp, far.stamp) }

ordered_from : (vs : List Version) → in_order vs ≡ true → Ordered vs
ordered_from [] h = tt
ordered_from (v ∷ vs) h =
    let p = and_parts (leads v vs) (in_order vs) h in
    let o = ordered_from vs p.1 in
    (leads_all v vs p.0 o, o)

order_from : (vs : List Version) → Ordered vs → in_order vs ≡ true
order_from [] o = refl
order_from (v ∷ []) o = refl
order_from (v ∷ w ∷ ws) o =
    and_from (goes_before v w) (in_order (w ∷ ws)) (goes_from v w (o.0 w (inl refl))) (order_from (w ∷ ws) o.1)

-- two rows in order, joined
pub ordered_join : (xs ys : List Version) → Ordered xs → Ordered ys → ((v w : Version) → In v xs → In w ys → Precedes v w) → Ordered (xs ++ ys)
ordered_join [] ys o q h = q
ordered_join (x ∷ xs) ys o q h = (
  λ w i. elim (in_either w xs ys i) [ inl j ↦ o.0 w j | inr j ↦ h x w (inl refl) j ],
  ordered_join xs ys o.1 q (λ v w i j. h v w (inr i) j),
)

pub ordered_first : (xs ys : List Version) → Ordered (xs ++ ys) → Ordered xs
ordered_first [] ys o = tt
ordered_first (x ∷ xs) ys o = (λ w i. o.0 w (in_left w xs ys i), ordered_first xs ys o.1)

pub ordered_rest : (xs ys : List Version) → Ordered (xs ++ ys) → Ordered ys
ordered_rest [] ys o = o
ordered_rest (x ∷ xs) ys o = ordered_rest xs ys o.1

pub ordered_across : (xs ys : List Version) → Ordered (xs ++ ys) → (v w : Version) → In v xs → In w ys → Precedes v w
ordered_across [] ys o v w i j = absurd i
ordered_across (x ∷ xs) ys o v w (inl e) j = subst (λ z. Precedes z w) e (o.0 w (in_right w xs ys j))
ordered_across (x ∷ xs) ys o v w (inr i) j = ordered_across xs ys o.1 v w i j

-- two members: the same, or one precedes the other
pub ordered_pair : (vs : List Version) → Ordered vs → (v w : Version) → In v vs → In w vs → (v ≡ w) ⊎ (Precedes v w ⊎ Precedes w v)
ordered_pair [] o v w i j = absurd i
ordered_pair (x ∷ xs) o v w (inl e) (inl f) = inl (sym e ∙ f)
ordered_pair (x ∷ xs) o v w (inl e) (inr j) = inr (inl (subst (λ z. Precedes z w) e (o.0 w j)))
ordered_pair (x ∷ xs) o v w (inr i) (inl f) = inr (inr (subst (λ z. Precedes z v) f (o.0 v i)))
ordered_pair (x ∷ xs) o v w (inr i) (inr j) = ordered_pair xs o.1 v w i j

pub state_committed : (s : State) → is_committed s ≡ true → s ≡ Committed
state_committed Committed h = refl
state_committed Pending h = absurd (false≢true h)

abbrev pub SomeCommitted : List Version → Type 0
SomeCommitted vs = (v : Version) × In v vs × (v.state ≡ Committed)

committed_from : (vs : List Version) → any_committed vs ≡ true → SomeCommitted vs
committed_from [] h = absurd (false≢true h)
committed_from (v ∷ vs) h =
    elim (or_cases (is_committed v.state) (any_committed vs) h) [
      | inl e ↦ (v, inl refl, state_committed v.state e)
      | inr e ↦ let r = committed_from vs e in (r.0, inr r.1, r.2)
    ]

any_from : (vs : List Version) (v : Version) → In v vs → v.state ≡ Committed → any_committed vs ≡ true
any_from [] v i e = absurd i
any_from (x ∷ xs) v (inl f) e = or_left (is_committed x.state) (any_committed xs) (ap (λ (z : Version). is_committed z.state) f ∙ ap is_committed e)
any_from (x ∷ xs) v (inr i) e = or_right (is_committed x.state) (any_committed xs) (any_from xs v i e)

pub record Rule (vs : List Version) : Type 0 where
  pub some : 1 ≤ length vs
  pub few : length vs ≤ 8
  pub ordered : Ordered vs
  pub one_committed : SomeCommitted vs

pub rule_parts : (vs : List Version) → keeps_rule vs ≡ true → Rule vs
rule_parts vs h =
    let p = and_parts (leb 1 (length vs) && leb (length vs) 8) (in_order vs && any_committed vs) h in
    let n = and_parts (leb 1 (length vs)) (leb (length vs) 8) p.0 in
    let o = and_parts (in_order vs) (any_committed vs) p.1 in
    record {
      some = leb-true 1 (length vs) n.0;
      few = leb-true (length vs) 8 n.1;
      ordered = ordered_from vs o.0;
      one_committed = committed_from vs o.1;
    }

pub rule_whole : (vs : List Version) → Rule vs → keeps_rule vs ≡ true
rule_whole vs r =
    and_from (leb 1 (length vs) && leb (length vs) 8) (in_order vs && any_committed vs)
    (and_from (leb 1 (length vs)) (leb (length vs) 8) (le-leb 1 (length vs) r.some) (le-leb (length vs) 8 r.few))
    (and_from (in_order vs) (any_committed vs) (order_from vs r.ordered)
    (any_from vs r.one_committed.0 r.one_committed.1 r.one_committed.2))

-- the rest of a row in order is in order, without one of it or with another in its place
pub ordered_without : (v : Version) (xs ys : List Version) → Ordered (xs ++ v ∷ ys) → Ordered (xs ++ ys)
ordered_without v xs ys o =
    ordered_join xs ys (ordered_first xs (v ∷ ys) o) (ordered_rest xs (v ∷ ys) o).1 (λ a b i j. ordered_across xs (v ∷ ys) o a b i (inr j))

pub ordered_with : (w : Version) (xs ys : List Version) → Ordered (xs ++ ys) → ((u : Version) → In u xs → Precedes u w)
    → ((u : Version) → In u ys → Precedes w u) → Ordered (xs ++ w ∷ ys)
ordered_with w xs ys o before after =
    ordered_join xs (w ∷ ys) (ordered_first xs ys o) (after, ordered_rest xs ys o)
    (λ a b i j. elim j [ inl e ↦ subst (λ z. Precedes a z) e (before a i) | inr k ↦ ordered_across xs ys o a b i k ])

-- no other has the number of the one in the middle
pub other_number : (v : Version) (xs ys : List Version) → Ordered (xs ++ v ∷ ys) → (u : Version) → In u (xs ++ ys) → u.number ≡ v.number → ⊥
other_number v xs ys o u i e =
    elim (in_either u xs ys i) [
      | inl j ↦ omega (arith, (ordered_across xs (v ∷ ys) o u v j (inl refl)).number)
      | inr j ↦ omega (arith, ((ordered_rest xs (v ∷ ys) o).0 u j).number)
    ]
