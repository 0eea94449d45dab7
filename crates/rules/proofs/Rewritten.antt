-- A row in which one version was replaced by another of the same number. Assumes nothing.
use Rattle.std.proofs.Common.{◌≡◌, ℕ, ◌<◌, ◌⊎◌, List, Some, sym, refl, ap, ◌∙◌, subst, inl, inr, arith}
use Rattle.std.proofs.lemmas.Bool.{cases_eq}
use Rattle.shelves.specs.declared.version.Version.{Version}
use Rattle.tables.specs.declared.table.Table.{Table}
use Rattle.rules.specs.Members.{In}
use Rattle.rules.specs.States.{State}
use Rattle.rules.proofs.History.{Event, last_stored, Ended}
use Rattle.rules.proofs.Invariant.{ActiveIn, Owned, Original, RowKept}
use Rattle.rules.proofs.Rowed.{Replaced}

-- every live writer of x has its version in the row, or is committed and older than all of it
pub record WritersStand (h : List Event) (ts : List Table) (a x : ℕ) (row : List Version) : Type 0 where
  pub active : (n t b : ℕ) → last_stored h a n x ≡ Some b → ActiveIn ts a n t → (w : Version) × In w row × (w.number ≡ n)
  pub done : (n b : ℕ) → last_stored h a n x ≡ Some b → Ended h a n → ((w : Version) × In w row × (w.number ≡ n)) ⊎ ((w : Version) → In w row → n < w.number)

-- the numbers of a row stand in another, and the other way round
pub record SameRow (row next : List Version) : Type 0 where
  pub forth : (z : Version) → In z row → (y : Version) × In y next × (y.number ≡ z.number)
  pub back : (y : Version) → In y next → (z : Version) × In z row × (z.number ≡ y.number)

pub writers_through : (h : List Event) (ts : List Table) (a x : ℕ) (row next : List Version) → SameRow row next → WritersStand h ts a x row → WritersStand h ts a x next
writers_through h ts a x row next same w = record {
  active = λ n t b q i. through n (w.active n t b q i);
  done = λ n b q i. elim (w.done n b q i) [
    | inl f ↦ inl (through n f)
    | inr f ↦ inr (λ y j. let z = same.back y j in let far = f z.0 z.1 in omega (arith, far, z.2))
  ];
}
  where
    through : (n : ℕ) → ((z : Version) × In z row × (z.number ≡ n)) → (y : Version) × In y next × (y.number ≡ n)
    through n f = let g = same.forth f.0 f.1 in (g.0, g.1, g.2 ∙ f.2)

pub replaced_same : (row next : List Version) (u w : Version) → In u row → w.number ≡ u.number → Replaced row next u w → SameRow row next
replaced_same row next u w i e c = record {
  forth = λ z j. elim (cases_eq z.number u.number) [ inl q ↦ (w, c.new, e ∙ sym q) | inr q ↦ (z, c.kept z j q, refl) ];
  back = λ y j. elim (c.only y j) [ inl q ↦ (u, i, sym e ∙ ap (λ (k : Version). k.number) (sym q)) | inr old ↦ (y, old.0, refl) ];
}

module _ (v : State) (h : List Event) (ts : List Table) (a x : ℕ) (row next : List Version) (u w : Version) where
  pub replaced_kept : In u row → w.number ≡ u.number → Replaced row next u w
      → Original v x w ⊎ Owned h ts a x w
      → ((z : Version) → In z row → (z.number ≡ u.number → ⊥) → Original v x z ⊎ Owned h ts a x z)
      → WritersStand h ts a x row → RowKept v h ts a x next
  replaced_kept i e c new others writers =
      let W = writers_through h ts a x row next (replaced_same row next u w i e c) writers in
      record {
        rule = c.rule;
        version = λ z j. elim (c.only z j) [
          | inl q ↦ subst (λ y. Original v x y ⊎ Owned h ts a x y) (sym q) new
          | inr old ↦ others z old.0 old.1
        ];
        active_writer = W.active;
        ended_writer = W.done;
      }

pub row_writers : (v : State) (h : List Event) (ts : List Table) (a x : ℕ) (row : List Version) → RowKept v h ts a x row → WritersStand h ts a x row
row_writers v h ts a x row r = record { active = r.active_writer; done = r.ended_writer }
