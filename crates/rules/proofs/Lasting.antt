-- The newest committed version of a row outlives every call: what goes is pending or older. Assumes nothing.
use Rattle.std.proofs.Common.{◌≡◌, ℕ, ◌+◌, ◌<◌, ◌≤◌, true, ◌⊎◌, List, [], ◌∷◌, length, Some, None, Ok, Err, Option, Result, sym, refl, ap, ◌∙◌, subst, inl, inr, arith}
use Rattle.std.proofs.lemmas.Bool.{cases_eq}
use Rattle.shelves.specs.Items.{level_of, row_of}
use Rattle.shelves.specs.Rows.{keeps_rule}
use Rattle.shelves.specs.declared.edit.Edit.{Edit}
use Rattle.shelves.specs.declared.edit.Edit.TheVariants.{Put, Insert, Remove}
use Rattle.shelves.specs.declared.version.State.TheVariants.{Committed, Pending}
use Rattle.shelves.specs.declared.version.Version.{Version}
use Rattle.tables.specs.declared.place.Held.{Held}
use Rattle.rules.specs.Choices.{last_that, numbered, marked, with_value, committed, pending}
use Rattle.rules.specs.Members.{In}
use Rattle.rules.specs.Reached.{Newest, NewestNeverLost}
use Rattle.rules.specs.Runs.{step, run}
use Rattle.rules.specs.Starts.{Lawful}
use Rattle.rules.specs.States.{Parts, State, with_clock, items_through, edits_of}
use Rattle.rules.specs.Steps.{settled, sender, next_clock, admission, admitted, reading, read_edits, read_done, two_committed, writing, write_edits, write_done, commit_edit, abort_edit, end_edits, ended as end_done}
use Rattle.rules.specs.declared.call.Call.{Call}
use Rattle.rules.specs.declared.call.Call.TheVariants.{Tick, Begin, Read, Write, Commit, Abort}
use Rattle.rules.specs.declared.decision.Admission.{Admission}
use Rattle.rules.specs.declared.decision.Chosen.{Chosen}
use Rattle.rules.specs.declared.decision.Reading.{Reading}
use Rattle.rules.specs.declared.decision.Writing.{Writing}
use Rattle.rules.specs.declared.refusal.Refusal.{Refusal}
use Rattle.rules.proofs.History.{Event}
use Rattle.rules.proofs.Invariant.{ActiveIn, RowKept, Inv}
use Rattle.rules.proofs.Inverted.{sender_ok, OwnReading, LowerReading, IsReading, reading_ok, OwnWriting, NewWriting, IsWriting, writing_ok}
use Rattle.rules.proofs.Reaching.{history, reached, row_known}
use Rattle.rules.proofs.ReadStep.{own_facts, pending_committed, sender_active, own_version}
use Rattle.rules.proofs.Rowed.{ruled, Replaced, put_row, remove_row, insert_row, Turns, drop_insert_row, end_row, row_ended, row_not_ended}
use Rattle.rules.proofs.WriteStep.{row_through, rows_through, rows_elsewhere, facts, over, over_changed, fresh, behind, stamps_below, stamps_above}

-- the newest committed version of a row stands in the next, but for its mark
abbrev pub Lasts : List Version → List Version → Type 0
Lasts row next =
    (w : Version) → Newest row w
    → (u : Version) × In u next × (u.number ≡ w.number) × (u.stamp ≡ w.stamp) × (u.state ≡ Committed) × (u.value ≡ w.value)

lasts_same : (row : List Version) → Lasts row row
lasts_same row w n = (w, n.stands, refl, refl, n.committed, refl)

-- all but a pending version stay
lasts_without : (row next : List Version) (p : Version) → keeps_rule row ≡ true → In p row → p.state ≡ Pending
    → ((u : Version) → In u row → (u.number ≡ p.number → ⊥) → In u next) → Lasts row next
lasts_without row next p rule i pending kept w n =
    let other : w.number ≡ p.number → ⊥ = λ e.
    let same : w ≡ p = (ruled row rule).distinct w p n.stands i e in
    pending_committed (ap (λ (y : Version). y.state) same ∙ pending) n.committed in
    (w, kept w n.stands other, refl, refl, n.committed, refl)

lasts_marked : (row next : List Version) (p : Version) (n : ℕ) → keeps_rule row ≡ true → In p row → Replaced row next p (marked n p) → Lasts row next
lasts_marked row next p n rule i changed w new =
    elim (cases_eq w.number p.number) [
      | inl e ↦
          let same : p ≡ w = (ruled row rule).distinct p w i new.stands (sym e) in (
            marked n p,
            changed.new,
            ap (λ (y : Version). y.number) same,
            ap (λ (y : Version). y.stamp) same,
            ap (λ (y : Version). y.state) same ∙ new.committed,
            ap (λ (y : Version). y.value) same,
          )
      | inr ne ↦ (w, changed.kept w new.stands ne, refl, refl, new.committed, refl)
    ]

-- the oldest goes only where a newer committed one stands
lasts_turned : (row next : List Version) (p : Version) → Turns row next p → Lasts row next
lasts_turned row next p t w n =
    let second = t.second in
    let other : w.number ≡ t.oldest.number → ⊥ = λ e. omega (arith, n.newest second.0 second.1 second.2, second.3, e) in
    (w, t.kept w n.stands other, refl, refl, n.committed, refl)

module _ (P : Parts) (lawful : Lawful P) (v : State) (h : List Event) (s : State) (I : Inv P v h s) where
  -- one row changes
  lasts_at : (x : ℕ) (es : List Edit) → Lasts (row_of s.items x) (row_of (items_through s.items (edits_of x es)) x)
      → (y : ℕ) → Lasts (row_of s.items y) (row_of (items_through s.items (edits_of x es)) y)
  lasts_at x es here y = elim (cases_eq y x) [
    | inl e ↦ subst (λ z. Lasts (row_of s.items z) (row_of (items_through s.items (edits_of x es)) z)) (sym e) here
    | inr ne ↦ subst (λ row. Lasts (row_of s.items y) row) (sym (rows_elsewhere x y es s.items ne)) (lasts_same (row_of s.items y))
  ]

  read_way : (l n x : ℕ) (r : Reading) (q : IsReading P s l n x r) → OwnReading l n q.item r ⊎ LowerReading P s l q.held.stamp q.item r
      → (y : ℕ) → Lasts (row_of s.items y) (row_of (items_through s.items (edits_of x (read_edits r))) y)
  read_way l n x r q (inl o) y =
      let f = own_facts P lawful.order v h s I l n x q.held q.from q.item q.found r o in
      subst (λ e. Lasts (row_of s.items y) (row_of (items_through s.items (edits_of x (read_edits e))) y)) (sym o.result)
      (lasts_at x (Put o.chosen.place (marked n o.chosen.version) ∷ [])
      (lasts_marked (row_of s.items x) _ o.chosen.version n f.kept.rule f.stands f.changed) y)
  read_way l n x r q (inr o) y =
      subst (λ e. Lasts (row_of s.items y) (row_of (items_through s.items (edits_of x (read_edits e))) y)) (sym o.result) (lasts_same (row_of s.items y))

  write_way : (l n x b : ℕ) (w : Writing) (q : IsWriting P s l n x b w) → OwnWriting n b q.item w ⊎ NewWriting n q.held.stamp b q.item w
      → (y : ℕ) → Lasts (row_of s.items y) (row_of (items_through s.items (edits_of x (write_edits w))) y)
  write_way l n x b w q (inl o) y =
      let f = facts P lawful.order v h s I l n x b q.held q.from q.item q.found q.level in
      let g = over P lawful.order v h s I l n x b q.held q.from q.item q.found q.level w o in
      let changed = over_changed P lawful.order v h s I l n x b q.held q.from q.item q.found q.level w o in
      subst (λ e. Lasts (row_of s.items y) (row_of (items_through s.items (edits_of x (write_edits e))) y)) (sym o.result)
      (lasts_at x (Put o.chosen.place (with_value b o.chosen.version) ∷ [])
      (lasts_without (row_of s.items x) _ o.chosen.version f.kept.rule g.stands g.state changed.kept) y)
  write_way l n x b w q (inr o) y =
      let f = facts P lawful.order v h s I l n x b q.held q.from q.item q.found q.level in
      let row : List Version = row_of s.items x in
      let pv : Version = pending n q.held.stamp b in
      let free = fresh P lawful.order v h s I l n x b q.held q.from q.item q.found q.level w o in
      let last = behind P lawful.order v h s I l n x b q.held q.from q.item q.found q.level w o in
      let low = stamps_below P lawful.order v h s I l n x b q.held q.from q.item q.found q.level w o in
      let high = stamps_above P lawful.order v h s I l n x b q.held q.from q.item q.found q.level w o in
      let through : (es : List Edit) → Lasts row (row_through es row) → Lasts row (row_of (items_through s.items (edits_of x es)) x) =
      λ es last. subst (λ next. Lasts row next) (sym (rows_through x es s.items f.here.within)) last in
      elim o.room [
        | inl r ↦
            let short : length row < 8 = rw f.here.row r.0 in
            let g = insert_row row o.chosen pv f.kept.rule short last free low high in
            subst (λ e. Lasts (row_of s.items y) (row_of (items_through s.items (edits_of x (write_edits e))) y)) (sym r.1)
            (lasts_at x (Insert (o.chosen.place + 1) pv ∷ [])
            (through (Insert (o.chosen.place + 1) pv ∷ []) (λ z n. (z, g.kept z n.stands, refl, refl, n.committed, refl))) y)
        | inr r ↦
            let full : 8 ≤ length row = rw f.here.row r.0 in
            let two : two_committed row ≡ true = rw f.here.row r.1 in
            let g = drop_insert_row row o.chosen pv f.kept.rule full two last free low high in
            subst (λ e. Lasts (row_of s.items y) (row_of (items_through s.items (edits_of x (write_edits e))) y)) (sym r.2)
            (lasts_at x (Remove 0 ∷ Insert o.chosen.place pv ∷ [])
            (through (Remove 0 ∷ Insert o.chosen.place pv ∷ []) (lasts_turned row _ pv g)) y)
      ]

  -- the version of the transaction that ends is pending
  commit_row : (l n t y : ℕ) → ActiveIn s.tables l n t → (row : List Version) → RowKept v h s.tables l y row → (o : Option Chosen)
      → last_that (numbered n) row ≡ o → Lasts row (end_row commit_edit row o)
  commit_row l n t y active row kept None e = lasts_same row
  commit_row l n t y active row kept (Some c) e =
      let O = own_version P v h s I l n t y active row kept c e in
      lasts_without row _ c.version kept.rule O.stands O.state
      (put_row row c.place c.version (committed c.version) kept.rule O.there refl refl (inr refl)).kept

  abort_row : (l n t y : ℕ) → ActiveIn s.tables l n t → (row : List Version) → RowKept v h s.tables l y row → (o : Option Chosen)
      → last_that (numbered n) row ≡ o → Lasts row (end_row abort_edit row o)
  abort_row l n t y active row kept None e = lasts_same row
  abort_row l n t y active row kept (Some c) e =
      let O = own_version P v h s I l n t y active row kept c e in
      lasts_without row _ c.version kept.rule O.stands O.state (remove_row row c.place c.version kept.rule O.there O.state).kept

  end_rows : (f : Chosen → Edit) (l n y : ℕ)
      → (RowKept v h s.tables l y (row_of s.items y)
      → Lasts (row_of s.items y) (end_row f (row_of s.items y) (last_that (numbered n) (row_of s.items y))))
      → Lasts (row_of s.items y) (row_of (items_through s.items (end_edits f l n 0 s.items)) y)
  end_rows f l n y lasts = elim (cases_eq (level_of s.items y) l) [
    | inl e ↦ λ w new.
        let lt = row_known s.items y w new.stands in
        let kept : RowKept v h s.tables l y (row_of s.items y) =
        subst (λ a. RowKept v h s.tables a y (row_of s.items y)) (sym (I.frame.levels y) ∙ e) (I.rows y (omega (arith, lt, I.frame.count))) in
        subst (λ next. Lasts (row_of s.items y) next) (sym (row_ended f l n s.items y lt e)) (lasts kept) w new
    | inr ne ↦ subst (λ next. Lasts (row_of s.items y) next) (sym (row_not_ended f l n s.items y ne)) (lasts_same (row_of s.items y))
  ]

  tick_lasts : (y : ℕ) (r : Result ℕ Refusal) → Lasts (row_of s.items y) (row_of (settled s (λ c. (c, with_clock s c)) r).1.items y)
  tick_lasts y (Err e) = lasts_same (row_of s.items y)
  tick_lasts y (Ok c) = lasts_same (row_of s.items y)

  begin_lasts : (l y : ℕ) (r : Result Admission Refusal) → Lasts (row_of s.items y) (row_of (settled s (admitted s l) r).1.items y)
  begin_lasts l y (Err e) = lasts_same (row_of s.items y)
  begin_lasts l y (Ok a) = lasts_same (row_of s.items y)

  read_lasts : (l n x y : ℕ) (r : Result Reading Refusal) → reading P s l n x ≡ r → Lasts (row_of s.items y) (row_of (settled s (read_done s x) r).1.items y)
  read_lasts l n x y (Err e) q = lasts_same (row_of s.items y)
  read_lasts l n x y (Ok r) q = let f = reading_ok P s l n x r q in read_way l n x r f f.way y

  write_lasts : (l n x b y : ℕ) (r : Result Writing Refusal) → writing P s l n x b ≡ r → Lasts (row_of s.items y) (row_of (settled s (write_done s x) r).1.items y)
  write_lasts l n x b y (Err e) q = lasts_same (row_of s.items y)
  write_lasts l n x b y (Ok w) q = let f = writing_ok P s l n x b w q in write_way l n x b w f f.way y

  commit_lasts : (l n y : ℕ) (r : Result Held Refusal) → sender P s l n ≡ r → Lasts (row_of s.items y) (row_of (settled s (end_done commit_edit s l n) r).1.items y)
  commit_lasts l n y (Err e) q = lasts_same (row_of s.items y)
  commit_lasts l n y (Ok hd) q =
      let active = sender_active P s l n hd (sender_ok P s l n hd q) in
      end_rows commit_edit l n y (λ kept. commit_row l n hd.stamp y active (row_of s.items y) kept (last_that (numbered n) (row_of s.items y)) refl)

  abort_lasts : (l n y : ℕ) (r : Result Held Refusal) → sender P s l n ≡ r → Lasts (row_of s.items y) (row_of (settled s (end_done abort_edit s l n) r).1.items y)
  abort_lasts l n y (Err e) q = lasts_same (row_of s.items y)
  abort_lasts l n y (Ok hd) q =
      let active = sender_active P s l n hd (sender_ok P s l n hd q) in
      end_rows abort_edit l n y (λ kept. abort_row l n hd.stamp y active (row_of s.items y) kept (last_that (numbered n) (row_of s.items y)) refl)

  pub step_lasts : (c : Call) (y : ℕ) → Lasts (row_of s.items y) (row_of (step P s c).1.items y)
  step_lasts Tick y = tick_lasts y (next_clock s)
  step_lasts (Begin l d) y = begin_lasts l y (admission P s l d)
  step_lasts (Read l n x) y = read_lasts l n x y (reading P s l n x) refl
  step_lasts (Write l n x b) y = write_lasts l n x b y (writing P s l n x b) refl
  step_lasts (Commit l n) y = commit_lasts l n y (sender P s l n) refl
  step_lasts (Abort l n) y = abort_lasts l n y (sender P s l n) refl

pub newest_never_lost : NewestNeverLost
newest_never_lost P v cs c st x w n = step_lasts P st.lawful v (history P v cs) (run P v cs).1 (reached P v cs st) c x w n
