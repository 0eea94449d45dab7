-- Where every read is right, a serial run gives each read the value that was seen: the value before a transaction is
-- that of the latest one that stored it, and this is the writer that the read names. Assumes nothing.
use Rattle.std.proofs.Common.{◌≡◌, ℕ, ◌<◌, ◌≤◌, Bool, true, false, cond, eqb, ◌⊎◌, List, [], ◌∷◌, ◌++◌, map, Some, None, Option, sym, refl, ap, ◌∙◌, subst, ap₂, subst₂, inl, inr, arith}
use Rattle.std.specs.List.{AllByRecursion}
use Rattle.std.proofs.lemmas.Bool.{eqb-true, eq-eqb, cases_eq, and_parts, and_from, or_cases, or_left, or_right, both_ways}
use Rattle.std.proofs.lemmas.Bool.Decides.{nat_tests}
use Rattle.orders.specs.Orders.{Order}
use Rattle.rules.specs.Members.{In}
use Rattle.rules.specs.Serial.{Transaction, is_named, transactions, has_commit, committed_ones, Before, Ordered, RunningOrder, Values, update, reads, leaves, serial_reads, serial_values}
use Rattle.rules.specs.Watermarks.{strictly_dominates}
use Rattle.rules.proofs.History.{Event, idle, began, saw, stored, ended, told, seen_by, onto, last_stored, Began, Ended, Precedes, Writer, Outside, ReadRight, ReadsRight, HistoryRight, in_past, in_onto, stored_in}
use Rattle.rules.proofs.Inside.{all_in, all_from_in, in_kept, kept_in}

-- what is in a history is in one of its parts
onto_in : (e : Event) (es g : List Event) → In e (onto es g) → In e es ⊎ In e g
onto_in e [] g i = inr i
onto_in e (f ∷ es) g i =
    elim (onto_in e es (f ∷ g) i) [
      | inl j ↦ inl (inr j)
      | inr j ↦ elim j [ inl p ↦ inl (inl p) | inr k ↦ inr k ]
    ]

reads_past : (lev : ℕ → ℕ) (first : Values ℕ) (h es g : List Event) → ReadsRight lev first h (onto es g) → ReadsRight lev first h g
reads_past lev first h [] g r = r
reads_past lev first h (idle ∷ es) g r = reads_past lev first h es (idle ∷ g) r
reads_past lev first h (began l n t ∷ es) g r = reads_past lev first h es (began l n t ∷ g) r
reads_past lev first h (saw l n x b ∷ es) g r = (reads_past lev first h es (saw l n x b ∷ g) r).1
reads_past lev first h (stored l n x b ∷ es) g r = reads_past lev first h es (stored l n x b ∷ g) r
reads_past lev first h (ended l n ∷ es) g r = reads_past lev first h es (ended l n ∷ g) r

-- the transactions that began, and those that committed
began_in : (es : List Event) (u : Transaction) → In u (transactions (map told es)) → In (began u.level u.number u.stamp) es
began_in [] u i = absurd i
began_in (idle ∷ es) u i = inr (began_in es u i)
began_in (began l n t ∷ es) u (inl e) = inl (ap (λ w. began w.level w.number w.stamp) e)
began_in (began l n t ∷ es) u (inr i) = inr (began_in es u i)
began_in (saw l n x a ∷ es) u i = inr (began_in es u i)
began_in (stored l n x a ∷ es) u i = inr (began_in es u i)
began_in (ended l n ∷ es) u i = inr (began_in es u i)

later_began : (f : Event) (es : List Event) (u : Transaction) → In u (transactions (map told es)) → In u (transactions (map told (f ∷ es)))
later_began idle es u i = i
later_began (began l n t) es u i = inr i
later_began (saw l n x a) es u i = i
later_began (stored l n x a) es u i = i
later_began (ended l n) es u i = i

in_began : (es : List Event) (u : Transaction) → In (began u.level u.number u.stamp) es → In u (transactions (map told es))
in_began [] u i = absurd i
in_began (f ∷ es) u (inl e) = subst (λ g. In u (transactions (map told (g ∷ es)))) (sym e) (inl refl)
in_began (f ∷ es) u (inr i) = later_began f es u (in_began es u i)

named_ended : (u : Transaction) (l n : ℕ) → is_named u l n ≡ true → ended l n ≡ ended u.level u.number
named_ended u l n t =
    let p = and_parts (eqb u.level l) (eqb u.number n) t in
    sym (ap₂ ended (eqb-true u.level l p.0) (eqb-true u.number n p.1))

named_itself : (u : Transaction) → is_named u u.level u.number ≡ true
named_itself u = and_from (eqb u.level u.level) (eqb u.number u.number) (eq-eqb u.level u.level refl) (eq-eqb u.number u.number refl)

ended_in : (es : List Event) (u : Transaction) → has_commit (map told es) u ≡ true → In (ended u.level u.number) es
ended_in [] u e = absurd (both_ways true (sym e) refl)
ended_in (idle ∷ es) u e = inr (ended_in es u e)
ended_in (began l n t ∷ es) u e = inr (ended_in es u e)
ended_in (saw l n x a ∷ es) u e = inr (ended_in es u e)
ended_in (stored l n x a ∷ es) u e = inr (ended_in es u e)
ended_in (ended l n ∷ es) u e =
    elim (or_cases (is_named u l n) (has_commit (map told es) u) e) [
      | inl t ↦ inl (named_ended u l n t)
      | inr t ↦ inr (ended_in es u t)
    ]

later_ended : (f : Event) (es : List Event) (u : Transaction) → has_commit (map told es) u ≡ true → has_commit (map told (f ∷ es)) u ≡ true
later_ended idle es u e = e
later_ended (began l n t) es u e = e
later_ended (saw l n x a) es u e = e
later_ended (stored l n x a) es u e = e
later_ended (ended l n) es u e = or_right (is_named u l n) (has_commit (map told es) u) e

in_ended : (es : List Event) (u : Transaction) → In (ended u.level u.number) es → has_commit (map told es) u ≡ true
in_ended [] u i = absurd i
in_ended (f ∷ es) u (inl e) =
    subst (λ g. has_commit (map told (g ∷ es)) u ≡ true) (sym e) (or_left (is_named u u.level u.number) (has_commit (map told es) u) (named_itself u))
in_ended (f ∷ es) u (inr i) = later_ended f es u (in_ended es u i)

-- a committed transaction began and ended, and one that did so is committed
pub record Committed (h : List Event) (u : Transaction) : Type 0 where
  pub start : Began h u.level u.number u.stamp
  pub finish : Ended h u.level u.number

pub committed : (es : List Event) (u : Transaction) → In u (committed_ones (map told es)) → Committed (onto es []) u
committed es u i =
    let r = kept_in (has_commit (map told es)) (transactions (map told es)) u i in
    record {
      start = in_onto (began u.level u.number u.stamp) es [] (began_in es u r.0);
      finish = in_onto (ended u.level u.number) es [] (ended_in es u r.1);
    }

from_onto : (e : Event) (es : List Event) → In e (onto es []) → In e es
from_onto e es i = elim (onto_in e es [] i) [ inl j ↦ j | inr j ↦ absurd j ]

pub is_committed : (es : List Event) (u : Transaction) → Committed (onto es []) u → In u (committed_ones (map told es))
is_committed es u c =
    in_kept (has_commit (map told es)) (transactions (map told es)) u
    (in_began es u (from_onto (began u.level u.number u.stamp) es c.start))
    (in_ended es u (from_onto (ended u.level u.number) es c.finish))

-- the value where there is one, or else d
abbrev or_else : Option ℕ → ℕ → ℕ
or_else None d = d
or_else (Some b) d = b

-- the value that u finds in x after g, having begun with the values σ
abbrev now : List Event → Transaction → Values ℕ → Values ℕ
now g u σ x = or_else (last_stored g u.level u.number x) (σ x)

now_stored : (l n y b : ℕ) (g : List Event) (u : Transaction) (σ τ : Values ℕ) (x : ℕ) → τ x ≡ now g u σ x
    → cond (is_named u l n) (update τ y b) τ x ≡ now (stored l n y b ∷ g) u σ x
now_stored l n y b g u σ τ x e = grind (arith, nat_tests)

-- what u leaves is what it finds in the end
leaves_now : (u : Transaction) (es g : List Event) (σ τ : Values ℕ) → ((x : ℕ) → τ x ≡ now g u σ x)
    → (x : ℕ) → leaves u (map told es) τ x ≡ now (onto es g) u σ x
leaves_now u [] g σ τ e = e
leaves_now u (idle ∷ es) g σ τ e = leaves_now u es (idle ∷ g) σ τ e
leaves_now u (began l n t ∷ es) g σ τ e = leaves_now u es (began l n t ∷ g) σ τ e
leaves_now u (saw l n x b ∷ es) g σ τ e = leaves_now u es (saw l n x b ∷ g) σ τ e
leaves_now u (stored l n x b ∷ es) g σ τ e =
    leaves_now u es (stored l n x b ∷ g) σ (cond (is_named u l n) (update τ x b) τ) (λ y. now_stored l n x b g u σ τ y (e y))
leaves_now u (ended l n ∷ es) g σ τ e = leaves_now u es (ended l n ∷ g) σ τ e

one_read : (named : Bool) (v b : ℕ) (xs ys : List ℕ) → (named ≡ true → v ≡ b) → xs ≡ ys
    → cond named (v ∷ xs) xs ≡ cond named (b ∷ []) [] ++ ys
one_read true v b xs ys e p = ap₂ (λ a zs. a ∷ zs) (e refl) p
one_read false v b xs ys e p = p

module _ (lev : ℕ → ℕ) (first : Values ℕ) (h : List Event) (u : Transaction) (σ : Values ℕ)
    (start : Began h u.level u.number u.stamp)
    (outside : (x b : ℕ) → In (saw u.level u.number x b) h → Outside h first (lev x) u.level u.number u.stamp x b → σ x ≡ b) where
  value_seen : (g : List Event) (x b v : ℕ) → v ≡ now g u σ x → In (saw u.level u.number x b) h
      → ReadRight lev first h g u.level u.number x b → v ≡ b
  value_seen g x b v e i (inl own) = e ∙ ap (λ o. or_else o (σ x)) own
  value_seen g x b v e i (inr other) = e ∙ ap (λ o. or_else o (σ x)) other.0 ∙ outside x b i (other.1 u.stamp start)

  value_named : (g : List Event) (l n x b v : ℕ) → v ≡ now g u σ x → In (saw l n x b) h
      → ReadRight lev first h g l n x b → is_named u l n ≡ true → v ≡ b
  value_named g l n x b v e i r t =
      let p = and_parts (eqb u.level l) (eqb u.number n) t in
      let a : l ≡ u.level = sym (eqb-true u.level l p.0) in
      let k : n ≡ u.number = sym (eqb-true u.number n p.1) in
      value_seen g x b v e (subst₂ (λ m j. In (saw m j x b) h) a k i) (subst₂ (λ m j. ReadRight lev first h g m j x b) a k r)

  -- u reads what it saw
  reads_seen : (es g : List Event) (τ : Values ℕ) → ((x : ℕ) → τ x ≡ now g u σ x) → ((e : Event) → In e (onto es g) → In e h)
      → ReadsRight lev first h (onto es g) → reads u (map told es) τ ≡ seen_by u es
  reads_seen [] g τ e inside r = refl
  reads_seen (idle ∷ es) g τ e inside r = reads_seen es (idle ∷ g) τ e inside r
  reads_seen (began l n t ∷ es) g τ e inside r = reads_seen es (began l n t ∷ g) τ e inside r
  reads_seen (saw l n x b ∷ es) g τ e inside r =
      one_read (is_named u l n) (τ x) b (reads u (map told es) τ) (seen_by u es)
      (value_named g l n x b (τ x) (e x)
      (inside (saw l n x b) (in_past (saw l n x b) es (saw l n x b ∷ g) (inl refl)))
      (reads_past lev first h es (saw l n x b ∷ g) r).0)
      (reads_seen es (saw l n x b ∷ g) τ e inside r)
  reads_seen (stored l n x b ∷ es) g τ e inside r =
      reads_seen es (stored l n x b ∷ g) (cond (is_named u l n) (update τ x b) τ) (λ y. now_stored l n x b g u σ τ y (e y)) inside r
  reads_seen (ended l n ∷ es) g τ e inside r = reads_seen es (ended l n ∷ g) τ e inside r

-- the value of x after the transactions ds, the latest first: that of the first of them that stored it
abbrev latest : List Event → Values ℕ → List Transaction → Values ℕ
latest h first [] x = first x
latest h first (d ∷ ds) x = now h d (latest h first ds) x

-- each comes after all behind it
abbrev Falling : Order → List Transaction → Type 0
Falling o [] = Unit {0}
Falling o (d ∷ ds) = AllByRecursion (λ e. Before o e d) ds × Falling o ds

not_stored : (v : Option ℕ) (d b : ℕ) → ((c : ℕ) → v ≡ Some c → ⊥) → d ≡ b → or_else v d ≡ b
not_stored None d b n e = e
not_stored (Some c) d b n e = absurd (n c refl)

-- nobody stored x
none_stored : (h : List Event) (first : Values ℕ) (x : ℕ) (ds : List Transaction)
    → ((d : Transaction) (c : ℕ) → In d ds → last_stored h d.level d.number x ≡ Some c → ⊥) → latest h first ds x ≡ first x
none_stored h first x [] n = refl
none_stored h first x (d ∷ ds) n =
    not_stored (last_stored h d.level d.number x) (latest h first ds x) (first x) (λ c. n d c (inl refl))
    (none_stored h first x ds (λ e c i. n e c (inr i)))

-- w stored x, and of those that did none has a larger number
last_writer : (o : Order) (h : List Event) (first : Values ℕ) (x b : ℕ) (w : Transaction) (ds : List Transaction) → Falling o ds
    → last_stored h w.level w.number x ≡ Some b → In w ds
    → ((d : Transaction) (c : ℕ) → In d ds → last_stored h d.level d.number x ≡ Some c → (w.level ≡ d.level) × (d.number ≤ w.number))
    → latest h first ds x ≡ b
last_writer o h first x b w [] f s i m = absurd i
last_writer o h first x b w (d ∷ ds) f s (inl e) m =
    ap (λ v. or_else v (latest h first ds x)) (ap (λ (y : Transaction). last_stored h y.level y.number x) e ∙ s)
last_writer o h first x b w (d ∷ ds) f s (inr i) m =
    let before : Before o w d = all_in (λ y. Before o y d) ds w f.0 i in
    not_stored (last_stored h d.level d.number x) (latest h first ds x) b
    (λ c q. let r = m d c (inl refl) q in omega (arith, r.1, before.begin_order r.0))
    (last_writer o h first x b w ds f.1 s i (λ y c j. m y c (inr j)))

-- of the transactions cs, ds have run, the latest first, and us will run
record Passed (o : Order) (cs ds us : List Transaction) : Type 0 where
  each : (u : Transaction) → In u cs → In u ds ⊎ In u us
  past : (d : Transaction) → In d ds → In d cs
  future : (u : Transaction) → In u us → In u cs
  falling : Falling o ds
  ordered : Ordered o us
  between : (d u : Transaction) → In d ds → In u us → Before o d u

passed_none : (o : Order) (cs us : List Transaction) → RunningOrder o cs us → Passed o cs [] us
passed_none o cs us r =
    record {
      each = λ u i. inr (r.all_there u i);
      past = λ d i. absurd i;
      future = r.no_other;
      falling = tt;
      ordered = r.ordered;
      between = λ d u i. absurd i;
    }

passed_more : (o : Order) (cs ds us : List Transaction) (u : Transaction) → Passed o cs ds (u ∷ us) → Passed o cs (u ∷ ds) us
passed_more o cs ds us u p =
    record {
      each = λ w i. elim (p.each w i) [
        | inl j ↦ inl (inr j)
        | inr j ↦ elim j [ inl e ↦ inl (inl e) | inr k ↦ inr k ]
      ];
      past = λ d i. elim i [ inl e ↦ p.future d (inl e) | inr j ↦ p.past d j ];
      future = λ w i. p.future w (inr i);
      falling = (all_from_in (λ e. Before o e u) ds (λ d i. p.between d u i (inl refl)), p.falling);
      ordered = p.ordered.1;
      between = λ d w i j. elim i [
        | inl e ↦ subst (λ y. Before o y w) e (all_in (Before o u) us w p.ordered.0 j)
        | inr k ↦ p.between d w k (inr j)
      ];
    }

module _ (o : Order) (lev : ℕ → ℕ) (first end : Values ℕ) (K : ℕ) (es : List Event) (right : HistoryRight o lev first end K (onto es [])) where
  stored_level : (d : Transaction) (x c : ℕ) → last_stored (onto es []) d.level d.number x ≡ Some c → lev x ≡ d.level
  stored_level d x c s = right.own_items d.level d.number x c (stored_in (onto es []) d.level d.number x c s)

  writer : (d : Transaction) (x c : ℕ) → In d (committed_ones (map told es)) → last_stored (onto es []) d.level d.number x ≡ Some c
      → Writer (onto es []) (lev x) x d.number d.stamp c
  writer d x c i s =
      let m = committed es d i in
      subst (λ a. Writer (onto es []) a x d.number d.stamp c) (sym (stored_level d x c s))
      (record { start = m.start; finish = m.finish; stores = s })

  of_writer : (a x k s c : ℕ) → Writer (onto es []) a x k s c → In (record { level = a; number = k; stamp = s }) (committed_ones (map told es))
  of_writer a x k s c w = is_committed es (record { level = a; number = k; stamp = s }) (record { start = w.start; finish = w.finish })

  -- what has run comes before u where u may read it
  precedes : (d u : Transaction) (a : ℕ) → a ≡ d.level → Before o d u → (a ≡ u.level) ⊎ (strictly_dominates o u.level a ≡ true)
      → Precedes u.level u.number u.stamp a d.number d.stamp
  precedes d u a e b may =
      record {
        own = λ q. b.begin_order (sym e ∙ q);
        lower = λ n. elim may [
          | inl q ↦ absurd (n q)
          | inr q ↦ elim (cases_eq d.stamp u.stamp) [
            | inl same ↦ absurd (both_ways (strictly_dominates o u.level d.level) (b.dominating_first same) (rw e at q))
            | inr other ↦ omega (arith, b.stamps)
          ]
        ];
      }

  -- what comes before u has run
  has_run : (ds us : List Transaction) (u w : Transaction) → Passed o (committed_ones (map told es)) ds (u ∷ us)
      → In w (committed_ones (map told es)) → Precedes u.level u.number u.stamp w.level w.number w.stamp → In w ds
  has_run ds us u w p i q =
      elim (p.each w i) [
        | inl j ↦ j
        | inr j ↦ elim j [
          | inl e ↦ absurd (omega (arith, q.own (ap (λ (y : Transaction). y.level) (sym e)), ap (λ (y : Transaction). y.number) e))
          | inr k ↦
              let b : Before o u w = all_in (Before o u) us w p.ordered.0 k in
              elim (cases_eq w.level u.level) [
                | inl same ↦ absurd (omega (arith, q.own same, b.begin_order (sym same)))
                | inr other ↦ absurd (omega (arith, q.lower other, b.stamps))
              ]
        ]
      ]

  -- the value from outside that u saw is the one that it finds
  finds : (ds us : List Transaction) (u : Transaction) → Passed o (committed_ones (map told es)) ds (u ∷ us) → (x b : ℕ)
      → In (saw u.level u.number x b) (onto es []) → Outside (onto es []) first (lev x) u.level u.number u.stamp x b
      → latest (onto es []) first ds x ≡ b
  finds ds us u p x b i out =
      elim out.source [
        | inl none ↦
            none_stored (onto es []) first x ds
            (λ d c j s. omega (arith, most d c j s, none.0, right.positive d.level d.number d.stamp (committed es d (p.past d j)).start))
            ∙ sym none.1
        | inr k ↦
            let w : Transaction = record { level = lev x; number = out.k; stamp = k.0 } in
            last_writer o (onto es []) first x b w ds p.falling k.1.stores
            (has_run ds us u w p (of_writer (lev x) x out.k k.0 b k.1) k.2)
            (λ d c j s. (stored_level d x c s, most d c j s))
      ]
    where
      most : (d : Transaction) (c : ℕ) → In d ds → last_stored (onto es []) d.level d.number x ≡ Some c → d.number ≤ out.k
      most d c j s =
          out.quiet d.number d.stamp c (writer d x c (p.past d j) s)
          (precedes d u (lev x) (stored_level d x c s) (p.between d u j (inl refl)) (right.lower_items u.level u.number x b i))

  -- when all have run
  last_value : (ds : List Transaction) → Passed o (committed_ones (map told es)) ds [] → (x : ℕ) → x < K → latest (onto es []) first ds x ≡ end x
  last_value ds p x l =
      elim (right.ends x l) [
        | inl none ↦
            none_stored (onto es []) first x ds (λ d c j s. none.0 d.number d.stamp c (writer d x c (p.past d j) s)) ∙ sym none.1
        | inr k ↦
            let w : Transaction = record { level = lev x; number = k.0; stamp = k.1 } in
            last_writer o (onto es []) first x (end x) w ds p.falling k.2.stores
            (elim (p.each w (of_writer (lev x) x k.0 k.1 (end x) k.2)) [ inl j ↦ j | inr j ↦ absurd j ])
            (λ d c j s. (stored_level d x c s, k.3 d.number d.stamp c (writer d x c (p.past d j) s)))
      ]

  serial_from : (ds us : List Transaction) → Passed o (committed_ones (map told es)) ds us → (σ : Values ℕ) → ((x : ℕ) → σ x ≡ latest (onto es []) first ds x)
      → (serial_reads (map told es) us σ ≡ map (λ u. seen_by u es) us) × ((x : ℕ) → x < K → serial_values (map told es) us σ x ≡ end x)
  serial_from ds [] p σ e = (refl, λ x l. e x ∙ last_value ds p x l)
  serial_from ds (u ∷ us) p σ e =
      let c = committed es u (p.future u (inl refl)) in
      let here = reads_seen lev first (onto es []) u (latest (onto es []) first ds) c.start (finds ds us u p) es [] σ e (λ f i. i) right.seen in
      let rest = serial_from (u ∷ ds) us (passed_more o (committed_ones (map told es)) ds us u p) (leaves u (map told es) σ)
      (leaves_now u es [] (latest (onto es []) first ds) σ e) in
      (ap₂ (λ r rs. r ∷ rs) here rest.0, rest.1)

-- in any running order the reads give what was seen, and the values left are those of the end
pub serial_run_right : (o : Order) (lev : ℕ → ℕ) (first end : Values ℕ) (K : ℕ) (es : List Event) → HistoryRight o lev first end K (onto es [])
    → (us : List Transaction) → RunningOrder o (committed_ones (map told es)) us
    → (serial_reads (map told es) us first ≡ map (λ u. seen_by u es) us)
    × ((x : ℕ) → x < K → serial_values (map told es) us first x ≡ end x)
serial_run_right o lev first end K es right us r =
    serial_from o lev first end K es right [] us (passed_none o (committed_ones (map told es)) us r) first (λ x. refl)
