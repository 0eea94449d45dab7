-- Choices and edits of a row that keeps the rule, by its members. Assumes nothing.
use Rattle.std.proofs.Common.{◌≡◌, ℕ, zero, suc, ◌+◌, ◌<◌, ◌≤◌, Bool, true, false, cond, eqb, ◌⊎◌, List, [], ◌∷◌, ◌++◌, length, take, drop, set, Some, None, Option, sym, refl, ap, ◌∙◌, subst, subst₂, inl, inr, arith}
use Rattle.std.specs.List.{slice_get}
use Rattle.std.proofs.lemmas.Option.{none-some, same_Some, slice_get_within, slice_get_cases}
use Rattle.std.proofs.lemmas.List.{length-append, length-set, set_split, take-append-drop}
use Rattle.std.proofs.lemmas.Bool.{and_parts, and_from, cases_Bool, cases_eq, cond-true, cond-false, cond_both, eq-eqb, ne_eqb, lt-ltb, le-leb, ltb-true, ltb-false, both_ways, false≢true}
use Rattle.shelves.specs.Edits.{fits, edited, accepts, row_after}
use Rattle.shelves.specs.Items.{Item, level_in, row_in, level_of, row_of, item_after, items_with, items_after}
use Rattle.shelves.specs.Rows.{is_committed, keeps_rule}
use Rattle.shelves.specs.declared.edit.Edit.{Edit}
use Rattle.shelves.specs.declared.edit.Edit.TheVariants.{Put, Insert, Remove}
use Rattle.shelves.specs.declared.version.State.TheVariants.{Committed, Pending}
use Rattle.shelves.specs.declared.version.Version.{Version}
use Rattle.rules.specs.Choices.{last_from, last_that, numbered, before}
use Rattle.rules.specs.Members.{In}
use Rattle.rules.specs.States.{ItemEdit, items_through}
use Rattle.rules.specs.Steps.{two_committed, end_edit, end_edits}
use Rattle.rules.specs.declared.decision.Chosen.{Chosen}
use Rattle.rules.proofs.Inside.{in_left, in_either, nth_of_drop, split_at, take_to, in_here, in_around, in_middle, in_some, in_nth, nth_set_same, nth_set_other}
use Rattle.rules.proofs.Ordered.{Precedes, Ordered, ordered_rest, ordered_across, ordered_pair, ordered_without, ordered_with, other_number, state_committed, Rule, rule_parts, rule_whole}

-- c is the last version of the row that passes
pub record IsLast (p : Version → Bool) (row : List Version) (c : Chosen) : Type 0 where
  pub there : slice_get row c.place ≡ Some c.version
  pub passes : p c.version ≡ true
  pub none_later : (j : ℕ) (w : Version) → c.place < j → slice_get row j ≡ Some w → p w ≡ false

-- the last that passes from place a on, or the best so far
abbrev LastFrom : (Version → Bool) → Option Chosen → ℕ → List Version → Chosen → Type 0
LastFrom p best a vs c =
    ((best ≡ Some c) × ((j : ℕ) (w : Version) → slice_get vs j ≡ Some w → p w ≡ false))
    ⊎ ((k : ℕ) × (c.place ≡ a + k) × (slice_get vs k ≡ Some c.version) × (p c.version ≡ true)
    × ((j : ℕ) (w : Version) → k < j → slice_get vs j ≡ Some w → p w ≡ false))

last_step : (p : Version → Bool) (best : Option Chosen) (a : ℕ) (v : Version) (vs : List Version) (c : Chosen)
    → LastFrom p (cond (p v) (Some (record { place = a; version = v })) best) (a + 1) vs c → LastFrom p best a (v ∷ vs) c
last_step p best a v vs c (inr (k, e, n, q, none)) = inr (suc k, omega arith, n, q, later)
  where
    later : (j : ℕ) (w : Version) → suc k < j → slice_get (v ∷ vs) j ≡ Some w → p w ≡ false
    later zero w l h = absurd (omega arith)
    later (suc j) w l h = none j w (omega arith) h
last_step p best a v vs c (inl (e, none)) = go (cases_Bool (p v))
  where
    first : Chosen
    first = record { place = a; version = v }

    later : (j : ℕ) (w : Version) → 0 < j → slice_get (v ∷ vs) j ≡ Some w → p w ≡ false
    later zero w l h = absurd (omega arith)
    later (suc j) w l h = none j w h

    every : p v ≡ false → (j : ℕ) (w : Version) → slice_get (v ∷ vs) j ≡ Some w → p w ≡ false
    every f zero w h = ap p (sym (same_Some v w h)) ∙ f
    every f (suc j) w h = none j w h

    go : (p v ≡ true) ⊎ (p v ≡ false) → LastFrom p best a (v ∷ vs) c
    go (inl t) =
        let same : first ≡ c = same_Some first c (sym (cond-true (p v) (Some first) best t) ∙ e) in
        inr (
          zero,
          ap (λ (z : Chosen). z.place) (sym same) ∙ omega arith,
          ap (λ (z : Chosen). Some z.version) same,
          ap (λ (z : Chosen). p z.version) (sym same) ∙ t,
          later,
        )
    go (inr f) = inl (sym (cond-false (p v) (Some first) best f) ∙ e, every f)

last_from_some : (p : Version → Bool) (best : Option Chosen) (a : ℕ) (vs : List Version) (c : Chosen) → last_from p best a vs ≡ Some c → LastFrom p best a vs c
last_from_some p best a [] c h = inl (h, λ j w e. absurd (none-some w e))
last_from_some p best a (v ∷ vs) c h =
    last_step p best a v vs c (last_from_some p (cond (p v) (Some (record { place = a; version = v })) best) (a + 1) vs c h)

pub last_some : (p : Version → Bool) (row : List Version) (c : Chosen) → last_that p row ≡ Some c → IsLast p row c
last_some p row c h = go (last_from_some p None 0 row c h)
  where
    go : LastFrom p None 0 row c → IsLast p row c
    go (inl (e, none)) = absurd (none-some c e)
    go (inr (k, e, n, q, none)) =
        let here : k ≡ c.place = omega arith in
        record { there = subst (λ j. slice_get row j ≡ Some c.version) here n; passes = q; none_later = λ j w l i. none j w (omega arith) i }

last_from_none : (p : Version → Bool) (best : Option Chosen) (a : ℕ) (vs : List Version) → last_from p best a vs ≡ None
    → (best ≡ None) × ((w : Version) → In w vs → p w ≡ false)
last_from_none p best a [] h = (h, λ w i. absurd i)
last_from_none p best a (v ∷ vs) h = go (cases_Bool (p v)) (last_from_none p (cond (p v) (Some first) best) (a + 1) vs h)
  where
    first : Chosen
    first = record { place = a; version = v }

    every : p v ≡ false → ((w : Version) → In w vs → p w ≡ false) → (w : Version) → In w (v ∷ vs) → p w ≡ false
    every f none w (inl e) = ap p (sym e) ∙ f
    every f none w (inr i) = none w i

    go : (p v ≡ true) ⊎ (p v ≡ false) → (cond (p v) (Some first) best ≡ None) × ((w : Version) → In w vs → p w ≡ false)
        → (best ≡ None) × ((w : Version) → In w (v ∷ vs) → p w ≡ false)
    go (inl t) (e, none) = absurd (none-some first (sym e ∙ cond-true (p v) (Some first) best t))
    go (inr f) (e, none) = (sym (cond-false (p v) (Some first) best f) ∙ e, every f none)

pub last_none : (p : Version → Bool) (row : List Version) → last_that p row ≡ None → (w : Version) → In w row → p w ≡ false
last_none p row h w i = (last_from_none p None 0 row h).1 w i

-- a row that keeps the rule, by its members
pub record Ruled (row : List Version) : Type 0 where
  pub some : 1 ≤ length row
  pub few : length row ≤ 8
  pub distinct : (v w : Version) → In v row → In w row → v.number ≡ w.number → v ≡ w
  pub stamps : (v w : Version) → In v row → In w row → v.number < w.number → v.stamp ≤ w.stamp
  pub one_committed : (v : Version) × In v row × (v.state ≡ Committed)

pub ruled : (row : List Version) → keeps_rule row ≡ true → Ruled row
ruled row h =
    let r = rule_parts row h in
    record {
      some = r.some;
      few = r.few;
      distinct = λ v w i j e.
          elim (ordered_pair row r.ordered v w i j) [
            | inl s ↦ s
            | inr q ↦ absurd (elim q [ inl b ↦ omega (arith, b.number) | inr b ↦ omega (arith, b.number) ])
          ];
      stamps = λ v w i j l.
          elim (ordered_pair row r.ordered v w i j) [
            | inl s ↦ absurd (omega (arith, ap (λ (z : Version). z.number) s))
            | inr q ↦ elim q [ inl b ↦ b.stamp | inr b ↦ absurd (omega (arith, b.number)) ]
          ];
      one_committed = r.one_committed;
    }

-- the last that passes has the largest number of those that pass
pub last_largest : (p : Version → Bool) (row : List Version) (c : Chosen) → keeps_rule row ≡ true → IsLast p row c
    → (w : Version) → In w row → p w ≡ true → w.number ≤ c.version.number
last_largest p row c h l w i q =
    let r = rule_parts row h in
    let split = split_at row c.place c.version l.there in
    let o : Ordered (take c.place row ++ c.version ∷ drop (suc c.place) row) = subst (λ z. Ordered z) split r.ordered in
    elim (in_either w (take c.place row) (c.version ∷ drop (suc c.place) row) (subst (λ z. In w z) split i)) [
      | inl j ↦ let b = ordered_across (take c.place row) (c.version ∷ drop (suc c.place) row) o w c.version j (inl refl) in omega (arith, b.number)
      | inr j ↦
          elim j [
            | inl e ↦ omega (arith, ap (λ (z : Version). z.number) e)
            | inr k ↦
                let at = nth_of_drop w (suc c.place) row k in
                absurd (both_ways (p w) (l.none_later at.0 w (omega (arith, at.1)) at.2) q)
          ]
    ]

-- after an edit: which versions stand
pub record Replaced (row next : List Version) (v w : Version) : Type 0 where
  pub rule : keeps_rule next ≡ true
  pub new : In w next
  pub kept : (u : Version) → In u row → (u.number ≡ v.number → ⊥) → In u next
  pub only : (u : Version) → In u next → (u ≡ w) ⊎ (In u row × (u.number ≡ v.number → ⊥))

-- an edit that fits and leaves a row that keeps the rule is accepted
accepted : (e : Edit) (vs next : List Version) → fits e (length vs) ≡ true → edited e vs ≡ next → keeps_rule next ≡ true → row_after e vs ≡ next
accepted e vs next f q k =
    cond-true (accepts e vs) (edited e vs) vs (and_from (fits e (length vs)) (keeps_rule (edited e vs)) f (ap keeps_rule q ∙ k)) ∙ q

put_split : (xs ys : List Version) (v w : Version) → Rule (xs ++ v ∷ ys)
    → w.number ≡ v.number → w.stamp ≡ v.stamp → (w.state ≡ v.state) ⊎ (w.state ≡ Committed)
    → Replaced (xs ++ v ∷ ys) (xs ++ w ∷ ys) v w
put_split xs ys v w r n s st =
    record {
      rule = rule_whole (xs ++ w ∷ ys) (record {
        some = in_some w (xs ++ w ∷ ys) (in_here w xs ys);
        few = omega (arith, r.few, length-append xs (v ∷ ys), length-append xs (w ∷ ys));
        ordered = ordered_with w xs ys (ordered_without v xs ys r.ordered) low high;
        one_committed = go (in_middle r.one_committed.0 v xs ys r.one_committed.1);
      });
      new = in_here w xs ys;
      kept = λ u i d.
          elim (in_middle u v xs ys i) [ inl e ↦ absurd (d (ap (λ (z : Version). z.number) (sym e))) | inr j ↦ in_around u w xs ys j ];
      only = λ u i.
          elim (in_middle u w xs ys i) [ inl e ↦ inl (sym e) | inr j ↦ inr (in_around u v xs ys j, other_number v xs ys r.ordered u j) ];
    }
  where
    low : (u : Version) → In u xs → Precedes u w
    low u i = let b = ordered_across xs (v ∷ ys) r.ordered u v i (inl refl) in record { number = omega (arith, b.number); stamp = omega (arith, b.stamp) }

    high : (u : Version) → In u ys → Precedes w u
    high u i = let b = (ordered_rest xs (v ∷ ys) r.ordered).0 u i in record { number = omega (arith, b.number); stamp = omega (arith, b.stamp) }

    go : (v ≡ r.one_committed.0) ⊎ In r.one_committed.0 (xs ++ ys) → (u : Version) × In u (xs ++ w ∷ ys) × (u.state ≡ Committed)
    go (inl e) = (w, in_here w xs ys, elim st [ inl f ↦ f ∙ ap (λ (z : Version). z.state) e ∙ r.one_committed.2 | inr f ↦ f ])
    go (inr i) = (r.one_committed.0, in_around r.one_committed.0 w xs ys i, r.one_committed.2)

-- the version at a place is replaced by one with the same number and stamp, whose state is the same or committed
pub put_row : (row : List Version) (i : ℕ) (v w : Version) → keeps_rule row ≡ true → slice_get row i ≡ Some v
    → w.number ≡ v.number → w.stamp ≡ v.stamp → (w.state ≡ v.state) ⊎ (w.state ≡ Committed)
    → Replaced row (row_after (Put i w) row) v w
put_row row i v w h e n s st =
    let xs = take i row in
    let ys = drop (suc i) row in
    let split = split_at row i v e in
    let within = slice_get_within row i v e in
    let r = put_split xs ys v w (subst (λ z. Rule z) split (rule_parts row h)) n s st in
    subst₂ (λ a b. Replaced a b v w) (sym split)
    (sym (accepted (Put i w) row (xs ++ w ∷ ys) (lt-ltb i (length row) within) (set_split row i w within) r.rule)) r

pub record Lacks (row next : List Version) (v : Version) : Type 0 where
  pub rule : keeps_rule next ≡ true
  pub kept : (u : Version) → In u row → (u.number ≡ v.number → ⊥) → In u next
  pub only : (u : Version) → In u next → In u row × (u.number ≡ v.number → ⊥)

remove_split : (xs ys : List Version) (v : Version) → Rule (xs ++ v ∷ ys) → ((u : Version) × In u (xs ++ ys) × (u.state ≡ Committed))
    → Lacks (xs ++ v ∷ ys) (xs ++ ys) v
remove_split xs ys v r c =
    record {
      rule = rule_whole (xs ++ ys) (record {
        some = in_some c.0 (xs ++ ys) c.1;
        few = omega (arith, r.few, length-append xs (v ∷ ys), length-append xs ys);
        ordered = ordered_without v xs ys r.ordered;
        one_committed = c;
      });
      kept = λ u i d. elim (in_middle u v xs ys i) [ inl e ↦ absurd (d (ap (λ (z : Version). z.number) (sym e))) | inr j ↦ j ];
      only = λ u i. (in_around u v xs ys i, other_number v xs ys r.ordered u i);
    }

remove_at : (row : List Version) (i : ℕ) (v : Version) → keeps_rule row ≡ true → slice_get row i ≡ Some v
    → ((u : Version) × In u (take i row ++ drop (suc i) row) × (u.state ≡ Committed))
    → (row_after (Remove i) row ≡ take i row ++ drop (suc i) row) × Lacks row (take i row ++ drop (suc i) row) v
remove_at row i v h e c =
    let split = split_at row i v e in
    let r = remove_split (take i row) (drop (suc i) row) v (subst (λ z. Rule z) split (rule_parts row h)) c in (
      accepted (Remove i) row (take i row ++ drop (suc i) row) (lt-ltb i (length row) (slice_get_within row i v e)) refl r.rule,
      subst (λ a. Lacks a (take i row ++ drop (suc i) row) v) (sym split) r,
    )

-- a pending version is removed
pub remove_row : (row : List Version) (i : ℕ) (v : Version) → keeps_rule row ≡ true → slice_get row i ≡ Some v → v.state ≡ Pending
    → Lacks row (row_after (Remove i) row) v
remove_row row i v h e p =
    let c = (rule_parts row h).one_committed in
    let there = subst (λ z. In c.0 z) (split_at row i v e) c.1 in
    let r = remove_at row i v h e (go c.0 c.2 (in_middle c.0 v (take i row) (drop (suc i) row) there)) in
    subst (λ a. Lacks row a v) (sym r.0) r.1
  where
    go : (u : Version) → u.state ≡ Committed → (v ≡ u) ⊎ In u (take i row ++ drop (suc i) row)
        → (u : Version) × In u (take i row ++ drop (suc i) row) × (u.state ≡ Committed)
    go u q (inl f) = absurd (false≢true (ap is_committed (sym p ∙ ap (λ (z : Version). z.state) f ∙ q)))
    go u q (inr j) = (u, j, q)

-- a version goes in behind its predecessor, where the stamps allow it
pub record Gains (row next : List Version) (w : Version) : Type 0 where
  pub rule : keeps_rule next ≡ true
  pub new : In w next
  pub kept : (u : Version) → In u row → In u next
  pub only : (u : Version) → In u next → (u ≡ w) ⊎ In u row

insert_at : (row : List Version) (p : ℕ) (w : Version) → keeps_rule row ≡ true → length row < 8 → p ≤ length row
    → ((u : Version) → In u (take p row) → Precedes u w) → ((u : Version) → In u (drop p row) → Precedes w u)
    → Gains row (row_after (Insert p w) row) w
insert_at row p w h l fit low high =
    let r = rule_parts row h in
    let xs = take p row in
    let ys = drop p row in
    let split : row ≡ xs ++ ys = sym (take-append-drop p row) in
    let c = r.one_committed in
    let rule : keeps_rule (xs ++ w ∷ ys) ≡ true = rule_whole (xs ++ w ∷ ys) (record {
      some = in_some w (xs ++ w ∷ ys) (in_here w xs ys);
      few = omega (arith, length-append xs ys, length-append xs (w ∷ ys), ap length split);
      ordered = ordered_with w xs ys (subst (λ z. Ordered z) split r.ordered) low high;
      one_committed = (c.0, in_around c.0 w xs ys (subst (λ z. In c.0 z) split c.1), c.2);
    }) in
    subst (λ a. Gains row a w) (sym (accepted (Insert p w) row (xs ++ w ∷ ys) (le-leb p (length row) fit) refl rule))
    (record {
      rule = rule;
      new = in_here w xs ys;
      kept = λ u i. in_around u w xs ys (subst (λ z. In u z) split i);
      only = λ u i. elim (in_middle u w xs ys i) [ inl e ↦ inl (sym e) | inr j ↦ inr (subst (λ z. In u z) (sym split) j) ];
    })

-- up to the predecessor all precede w, and w precedes the others
predecessor_sides : (row : List Version) (c : Chosen) (w : Version) → keeps_rule row ≡ true
    → IsLast (before w.number) row c → ((u : Version) → In u row → u.number ≡ w.number → ⊥)
    → ((u : Version) → In u row → u.number < w.number → u.stamp ≤ w.stamp)
    → ((u : Version) → In u row → w.number < u.number → w.stamp ≤ u.stamp)
    → ((u : Version) → In u (take (suc c.place) row) → Precedes u w) × ((u : Version) → In u (drop (suc c.place) row) → Precedes w u)
predecessor_sides row c w h last fresh low high = (up_to_it, behind)
  where
    xs : List Version
    xs = take c.place row

    ys : List Version
    ys = drop (suc c.place) row

    split : row ≡ xs ++ c.version ∷ ys
    split = split_at row c.place c.version last.there

    smaller : c.version.number < w.number
    smaller = ltb-true c.version.number w.number last.passes

    up_to_it : (u : Version) → In u (take (suc c.place) row) → Precedes u w
    up_to_it u i =
        let less : u.number < w.number =
        elim (in_either u xs (c.version ∷ []) (subst (λ z. In u z) (take_to row c.place c.version last.there) i)) [
          | inl j ↦
              let o = subst (λ z. Ordered z) split (rule_parts row h).ordered in
              omega (arith, smaller, (ordered_across xs (c.version ∷ ys) o u c.version j (inl refl)).number)
          | inr j ↦ elim j [ inl e ↦ omega (arith, smaller, ap (λ (z : Version). z.number) e) | inr k ↦ absurd k ]
        ] in
        record { number = less; stamp = low u (in_first u i) less }
      where
        in_first : (u : Version) → In u (take (suc c.place) row) → In u row
        in_first u i = subst (λ z. In u z) (take-append-drop (suc c.place) row) (in_left u (take (suc c.place) row) (drop (suc c.place) row) i)

    behind : (u : Version) → In u ys → Precedes w u
    behind u i =
        let at = nth_of_drop u (suc c.place) row i in
        let here : In u row = in_nth row at.0 u at.2 in
        let not_less = ltb-false u.number w.number (last.none_later at.0 u (omega (arith, at.1)) at.2) in
        let more : w.number < u.number =
        elim (cases_eq u.number w.number) [ inl e ↦ absurd (fresh u here e) | inr d ↦ omega arith ] in
        record { number = more; stamp = high u here more }

pub insert_row : (row : List Version) (c : Chosen) (w : Version) → keeps_rule row ≡ true → length row < 8
    → IsLast (before w.number) row c → ((u : Version) → In u row → u.number ≡ w.number → ⊥)
    → ((u : Version) → In u row → u.number < w.number → u.stamp ≤ w.stamp)
    → ((u : Version) → In u row → w.number < u.number → w.stamp ≤ u.stamp)
    → Gains row (row_after (Insert (c.place + 1) w) row) w
insert_row row c w h l last fresh low high =
    let sides = predecessor_sides row c w h last fresh low high in
    let next : suc c.place ≡ c.place + 1 = omega arith in
    subst (λ p. Gains row (row_after (Insert p w) row) w) next
    (insert_at row (suc c.place) w h l (slice_get_within row c.place c.version last.there) sides.0 sides.1)

-- in a full row the oldest version goes first: next has w, and all others but the oldest, o
pub record Turns (row next : List Version) (w : Version) : Type 0 where
  pub oldest : Version
  pub stood : In oldest row
  pub old_committed : oldest.state ≡ Committed
  pub least : (u : Version) → In u row → oldest.number ≤ u.number
  pub second : (v : Version) × In v row × (v.state ≡ Committed) × (oldest.number < v.number)
  pub rule : keeps_rule next ≡ true
  pub new : In w next
  pub kept : (u : Version) → In u row → (u.number ≡ oldest.number → ⊥) → In u next
  pub only : (u : Version) → In u next → (u ≡ w) ⊎ (In u row × (u.number ≡ oldest.number → ⊥))

pub drop_insert_row : (row : List Version) (c : Chosen) (w : Version) → keeps_rule row ≡ true → 8 ≤ length row → two_committed row ≡ true
    → IsLast (before w.number) row c → ((u : Version) → In u row → u.number ≡ w.number → ⊥)
    → ((u : Version) → In u row → u.number < w.number → u.stamp ≤ w.stamp)
    → ((u : Version) → In u row → w.number < u.number → w.stamp ≤ u.stamp)
    → Turns row (row_after (Insert c.place w) (row_after (Remove 0) row)) w
drop_insert_row [] c w h full two last fresh low high = absurd (false≢true two)
drop_insert_row (o ∷ []) c w h full two last fresh low high = absurd (false≢true two)
drop_insert_row (o ∷ s ∷ rest) c w h full two last fresh low high =
    let r = rule_parts (o ∷ s ∷ rest) h in
    let both = and_parts (is_committed o.state) (is_committed s.state) two in
    let first : o.state ≡ Committed = state_committed o.state both.0 in
    let next : s.state ≡ Committed = state_committed s.state both.1 in
    let gone = remove_at (o ∷ s ∷ rest) 0 o h refl (s, inl refl, next) in
    let sides = predecessor_sides (o ∷ s ∷ rest) c w h last fresh low high in
    let within = slice_get_within (o ∷ s ∷ rest) c.place c.version last.there in
    let g = insert_at (s ∷ rest) c.place w gone.1.rule (omega (arith, r.few)) (omega (arith, within)) (λ u i. sides.0 u (inr i)) sides.1 in
    record {
      oldest = o;
      stood = inl refl;
      old_committed = first;
      least = λ u i. elim i [ inl e ↦ omega (arith, ap (λ (z : Version). z.number) e) | inr j ↦ omega (arith, (r.ordered.0 u j).number) ];
      second = (s, inr (inl refl), next, (r.ordered.0 s (inl refl)).number);
      rule = subst (λ z. keeps_rule (row_after (Insert c.place w) z) ≡ true) (sym gone.0) g.rule;
      new = subst (λ z. In w (row_after (Insert c.place w) z)) (sym gone.0) g.new;
      kept = λ u i d. subst (λ z. In u (row_after (Insert c.place w) z)) (sym gone.0) (g.kept u (gone.1.kept u i d));
      only = λ u i.
          elim (g.only u (subst (λ z. In u (row_after (Insert c.place w) z)) gone.0 i)) [ inl e ↦ inl e | inr j ↦ inr (gone.1.only u j) ];
    }

-- items after edits
pub level_after : (its : List Item) (x y : ℕ) (e : Edit) → level_of (items_after its x e) y ≡ level_of its y
level_after its x y e = go (slice_get its x) refl (cases_eq y x)
  where
    go : (o : Option Item) → slice_get its x ≡ o → (y ≡ x) ⊎ (y ≡ x → ⊥) → level_of (items_with its x e o) y ≡ level_of its y
    go None h d = refl
    go (Some it) h (inl same) =
        subst (λ z. level_of (set its x (item_after e it)) z ≡ level_of its z) (sym same)
        (ap level_in (nth_set_same its x it (item_after e it) h) ∙ ap level_in (sym h))
    go (Some it) h (inr d) = ap level_in (nth_set_other its x y (item_after e it) d)

length_edited : (its : List Item) (x : ℕ) (e : Edit) → length (items_after its x e) ≡ length its
length_edited its x e = go (slice_get its x)
  where
    go : (o : Option Item) → length (items_with its x e o) ≡ length its
    go None = refl
    go (Some it) = length-set its x (item_after e it)

pub levels_after : (its : List Item) (es : List ItemEdit) (y : ℕ) → level_of (items_through its es) y ≡ level_of its y
levels_after its [] y = refl
levels_after its (e ∷ es) y = levels_after (items_after its e.item e.edit) es y ∙ level_after its e.item y e.edit

pub length_after : (its : List Item) (es : List ItemEdit) → length (items_through its es) ≡ length its
length_after its [] = refl
length_after its (e ∷ es) = length_after (items_after its e.item e.edit) es ∙ length_edited its e.item e.edit

missing : (its : List Item) (x : ℕ) → x < length its → slice_get its x ≡ None → ⊥
missing its x h q = elim (slice_get_cases its x).1 [ inl f ↦ none-some f.0 (sym q ∙ f.2) | inr p ↦ omega (arith, h, p.0) ]

pub row_edited : (its : List Item) (x : ℕ) (e : Edit) → x < length its → row_of (items_after its x e) x ≡ row_after e (row_of its x)
row_edited its x e h = go (slice_get its x) refl
  where
    go : (o : Option Item) → slice_get its x ≡ o → row_of (items_with its x e o) x ≡ row_after e (row_of its x)
    go None q = absurd (missing its x h q)
    go (Some it) q = ap row_in (nth_set_same its x it (item_after e it) q) ∙ ap (λ o. row_after e (row_in o)) (sym q)

pub row_other : (its : List Item) (x y : ℕ) (e : Edit) → (y ≡ x → ⊥) → row_of (items_after its x e) y ≡ row_of its y
row_other its x y e h = go (slice_get its x)
  where
    go : (o : Option Item) → row_of (items_with its x e o) y ≡ row_of its y
    go None = refl
    go (Some it) = ap row_in (nth_set_other its x y (item_after e it) h)

-- what an end makes of a row of its level
abbrev pub end_row : (Chosen → Edit) → List Version → Option Chosen → List Version
end_row f row None = row
end_row f row (Some c) = row_after (f c) row

pub through_join : (its : List Item) (es fs : List ItemEdit) → items_through its (es ++ fs) ≡ items_through (items_through its es) fs
through_join its [] fs = refl
through_join its (e ∷ es) fs = through_join (items_after its e.item e.edit) es fs

-- the edits of one item
abbrev item_edits : (Chosen → Edit) → ℕ → ℕ → ℕ → Item → List ItemEdit
item_edits f l n x it = cond (eqb it.level l) (end_edit f x (last_that (numbered n) it.row)) []

others_stay : (f : Chosen → Edit) (x y : ℕ) (o : Option Chosen) (its : List Item) → (y ≡ x → ⊥) → row_of (items_through its (end_edit f x o)) y ≡ row_of its y
others_stay f x y None its d = refl
others_stay f x y (Some c) its d = row_other its x y (f c) d

others_kept : (f : Chosen → Edit) (l n x y : ℕ) (it : Item) (its : List Item) → (y ≡ x → ⊥)
    → row_of (items_through its (item_edits f l n x it)) y ≡ row_of its y
others_kept f l n x y it its d =
    cond_both (eqb it.level l) (end_edit f x (last_that (numbered n) it.row)) [] (λ es. row_of (items_through its es) y ≡ row_of its y)
    (λ _. others_stay f x y (last_that (numbered n) it.row) its d) (λ _. refl)

-- the edits from item x on leave the items before it
earlier_kept : (f : Chosen → Edit) (l n x y : ℕ) (rest its : List Item) → y < x → row_of (items_through its (end_edits f l n x rest)) y ≡ row_of its y
earlier_kept f l n x y [] its h = refl
earlier_kept f l n x y (it ∷ rest) its h =
    let es = item_edits f l n x it in
    ap (λ z. row_of z y) (through_join its es (end_edits f l n (x + 1) rest))
    ∙ earlier_kept f l n (x + 1) y rest (items_through its es) (omega arith)
    ∙ others_kept f l n x y it its (λ e. omega arith)

end_row_here : (f : Chosen → Edit) (x : ℕ) (o : Option Chosen) (its : List Item) → x < length its
    → row_of (items_through its (end_edit f x o)) x ≡ end_row f (row_of its x) o
end_row_here f x None its h = refl
end_row_here f x (Some c) its h = row_edited its x (f c) h

-- of item y, the k-th from x on, whose row is still as it was
ended_from : (f : Chosen → Edit) (l n x k y : ℕ) (rest its : List Item) (it : Item) → y ≡ x + k → slice_get rest k ≡ Some it
    → it.level ≡ l → row_of its y ≡ it.row → y < length its
    → row_of (items_through its (end_edits f l n x rest)) y ≡ end_row f it.row (last_that (numbered n) it.row)
ended_from f l n x k y [] its it e q v r h = absurd (none-some it q)
ended_from f l n x zero y (jt ∷ rest) its it e q v r h =
    let same : jt ≡ it = same_Some jt it q in
    let o = last_that (numbered n) it.row in
    let here : y ≡ x = omega arith in
    let es = item_edits f l n x jt in
    let es_is : es ≡ end_edit f y o =
    ap (item_edits f l n x) same
    ∙ cond-true (eqb it.level l) (end_edit f x o) [] (eq-eqb it.level l v)
    ∙ ap (λ z. end_edit f z o) (sym here) in
    ap (λ z. row_of z y) (through_join its es (end_edits f l n (x + 1) rest))
    ∙ earlier_kept f l n (x + 1) y rest (items_through its es) (omega arith)
    ∙ ap (λ z. row_of (items_through its z) y) es_is
    ∙ end_row_here f y o its h
    ∙ ap (λ z. end_row f z o) r
ended_from f l n x (suc k) y (jt ∷ rest) its it e q v r h =
    let es = item_edits f l n x jt in
    ap (λ z. row_of z y) (through_join its es (end_edits f l n (x + 1) rest))
    ∙ ended_from f l n (x + 1) k y rest (items_through its es) it (omega arith) q v
    (others_kept f l n x y jt its (λ d. omega arith) ∙ r) (omega (arith, length_after its es))

not_ended_from : (f : Chosen → Edit) (l n x k y : ℕ) (rest its : List Item) → y ≡ x + k → (level_of rest k ≡ l → ⊥)
    → row_of (items_through its (end_edits f l n x rest)) y ≡ row_of its y
not_ended_from f l n x k y [] its e d = refl
not_ended_from f l n x zero y (jt ∷ rest) its e d =
    let es = item_edits f l n x jt in
    let none : es ≡ [] = cond-false (eqb jt.level l) (end_edit f x (last_that (numbered n) jt.row)) [] (ne_eqb jt.level l d) in
    ap (λ z. row_of z y) (through_join its es (end_edits f l n (x + 1) rest))
    ∙ earlier_kept f l n (x + 1) y rest (items_through its es) (omega arith)
    ∙ ap (λ z. row_of (items_through its z) y) none
not_ended_from f l n x (suc k) y (jt ∷ rest) its e d =
    let es = item_edits f l n x jt in
    ap (λ z. row_of z y) (through_join its es (end_edits f l n (x + 1) rest))
    ∙ not_ended_from f l n (x + 1) k y rest (items_through its es) (omega arith) d
    ∙ others_kept f l n x y jt its (λ c. omega arith)

pub row_ended : (f : Chosen → Edit) (l n : ℕ) (its : List Item) (y : ℕ) → y < length its → level_of its y ≡ l
    → row_of (items_through its (end_edits f l n 0 its)) y ≡ end_row f (row_of its y) (last_that (numbered n) (row_of its y))
row_ended f l n its y h e = go (slice_get its y) refl
  where
    go : (o : Option Item) → slice_get its y ≡ o
        → row_of (items_through its (end_edits f l n 0 its)) y ≡ end_row f (row_of its y) (last_that (numbered n) (row_of its y))
    go None q = absurd (missing its y h q)
    go (Some it) q =
        ended_from f l n 0 y y its its it (omega arith) q (ap level_in (sym q) ∙ e) (ap row_in q) h
        ∙ ap (λ z. end_row f z (last_that (numbered n) z)) (ap row_in (sym q))

pub row_not_ended : (f : Chosen → Edit) (l n : ℕ) (its : List Item) (y : ℕ) → (level_of its y ≡ l → ⊥)
    → row_of (items_through its (end_edits f l n 0 its)) y ≡ row_of its y
row_not_ended f l n its y e = not_ended_from f l n 0 y y its its (omega arith) e
