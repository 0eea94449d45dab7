-- What a level sees of a run is the run of the calls that it sees, from the start with all else blanked out: a call that it
-- does not see changes nothing of that, and one that it sees asks for nothing else. Assumes nothing.
use Rattle.std.proofs.Common.{◌≡◌, ℕ, zero, suc, ◌+◌, max, Bool, true, false, cond, not, eqb, ltb, ◌⊎◌, List, [], ◌∷◌, map, get_or, set, replicate, is_some, Some, None, Ok, Err, Option, Result, sym, refl, ap, ◌∙◌, subst, ap₂, inl, inr, arith}
use mathlib.Core.Path.{fun_ext}
use Rattle.std.specs.Option.{option_map}
use Rattle.std.specs.List.{AllByRecursion, slice_get}
use Rattle.std.proofs.lemmas.Option.{slice_get-map}
use Rattle.std.proofs.ByRecursion.{All-append, All-weaker}
use Rattle.std.proofs.lemmas.Bool.{true≢false, cases_Bool, cond-true, cond-false, cond_both, and_parts, eqb-true}
use Rattle.orders.specs.Orders.{PartialOrder}
use Rattle.shelves.specs.Items.{Item, level_in, level_of, row_of, item_after, items_with, items_after}
use Rattle.shelves.specs.declared.edit.Edit.{Edit}
use Rattle.tables.specs.Tables.{empty_table, filled, freed}
use Rattle.tables.specs.declared.place.Active.{Active}
use Rattle.tables.specs.declared.place.Held.{Held}
use Rattle.tables.specs.declared.table.Table.{Table}
use Rattle.rules.specs.Answers.{Answer}
use Rattle.rules.specs.Choices.{last_that, numbered, up_to, older_than, is_pending}
use Rattle.rules.specs.Isolation.{visible, seen_calls, seen_log, SameParts, SameItems, SameRows, HiddenCallsChangeNoVisibleAnswer}
use Rattle.rules.specs.Runs.{answered_by, step, run, log}
use Rattle.rules.specs.Starts.{Start}
use Rattle.rules.specs.States.{Parts, State, table_at, with_clock, with_items, ItemEdit, edits_of, items_through}
use Rattle.rules.specs.Steps.{settled, and_then, known, sender, item_of, next_clock, stamp_for, admission, admitted, own_read, wait, lower_read, read_below, read_item, reading, read_edits, read_done, write_row, write_item, writing, write_edits, write_done, commit_edit, abort_edit, end_edit, end_edits, ended}
use Rattle.rules.specs.Watermarks.{collected, strictly_dominates, at_or_below, below, least, floor, waited_for, entry}
use Rattle.rules.specs.declared.answer.Reply.TheVariants.{Clock, Begun, Value, Done}
use Rattle.rules.specs.declared.call.Call.{Call}
use Rattle.rules.specs.declared.call.Call.TheVariants.{Tick, Begin, Read, Write, Commit, Abort}
use Rattle.rules.specs.declared.decision.Chosen.{Chosen}
use Rattle.rules.specs.declared.decision.Reading.{Reading}
use Rattle.rules.specs.declared.decision.Writing.{Writing}
use Rattle.rules.specs.declared.refusal.Refusal.{Refusal}
use Rattle.rules.specs.declared.refusal.Refusal.TheVariants.{UnknownItem, NotDominated, OtherLevel, LowerPending}
use Rattle.rules.proofs.Inverted.{passed, not_refused, then_ok}
use Rattle.rules.proofs.Rowed.{level_after}

-- tables: those of the levels that pass stay, and the others become empty
abbrev masked_tables : (ℕ → Bool) → List Table → List Table
masked_tables p [] = []
masked_tables p (t ∷ ts) = cond (p 0) t empty_table ∷ masked_tables (λ b. p (suc b)) ts

table_seen : (p : ℕ → Bool) (ts : List Table) (a : ℕ) → p a ≡ true
    → get_or (masked_tables p ts) a empty_table ≡ get_or ts a empty_table
table_seen p [] a h = refl
table_seen p (t ∷ ts) zero h = cond-true (p 0) t empty_table h
table_seen p (t ∷ ts) (suc a) h = table_seen (λ b. p (suc b)) ts a h

set_seen : (p : ℕ → Bool) (ts : List Table) (a : ℕ) (t : Table) → p a ≡ true
    → masked_tables p (set ts a t) ≡ set (masked_tables p ts) a t
set_seen p [] a t h = refl
set_seen p (u ∷ ts) zero t h = ap (λ x. x ∷ masked_tables (λ b. p (suc b)) ts) (cond-true (p 0) t empty_table h)
set_seen p (u ∷ ts) (suc a) t h = ap (λ xs. cond (p 0) u empty_table ∷ xs) (set_seen (λ b. p (suc b)) ts a t h)

set_hidden : (p : ℕ → Bool) (ts : List Table) (a : ℕ) (t : Table) → p a ≡ false
    → masked_tables p (set ts a t) ≡ masked_tables p ts
set_hidden p [] a t h = refl
set_hidden p (u ∷ ts) zero t h = rw h
set_hidden p (u ∷ ts) (suc a) t h = ap (λ xs. cond (p 0) u empty_table ∷ xs) (set_hidden (λ b. p (suc b)) ts a t h)

-- where all levels collected pass, the same is collected
collected_seen : (p q : ℕ → Bool) (a : ℕ) (ts : List Table) → ((b : ℕ) → q (a + b) ≡ true → p b ≡ true)
    → collected q a (masked_tables p ts) ≡ collected q a ts
collected_seen p q a [] h = refl
collected_seen p q a (t ∷ ts) h =
    let here : a + 0 ≡ a = omega arith in
    let next : (b : ℕ) → a + suc b ≡ a + 1 + b = λ b. omega arith in
    let rest : collected q (a + 1) (masked_tables (λ b. p (suc b)) ts) ≡ collected q (a + 1) ts =
    collected_seen (λ b. p (suc b)) q (a + 1) ts (λ b e. h (suc b) (ap q (next b) ∙ e)) in
    elim (cases_Bool (q a)) [
      | inl e ↦
          let seen : p 0 ≡ true = h 0 (ap q here ∙ e) in
          rw (seen, rest)
      | inr e ↦ rw (e, rest)
    ]

-- an item changed
abbrev changed_at : (Item → Item) → List Item → ℕ → List Item
changed_at f [] x = []
changed_at f (it ∷ its) zero = f it ∷ its
changed_at f (it ∷ its) (suc x) = it ∷ changed_at f its x

later_item : (it : Item) (its : List Item) (x : ℕ) (e : Edit) (o : Option Item)
    → items_with (it ∷ its) (suc x) e o ≡ it ∷ items_with its x e o
later_item it its x e None = refl
later_item it its x e (Some i) = refl

after_is : (its : List Item) (x : ℕ) (e : Edit) → items_after its x e ≡ changed_at (item_after e) its x
after_is [] x e = refl
after_is (it ∷ its) zero e = refl
after_is (it ∷ its) (suc x) e = later_item it its x e (slice_get its x) ∙ ap (λ xs. it ∷ xs) (after_is its x e)

-- all edits are of items of level a
abbrev OfLevel : ℕ → List Item → List ItemEdit → Type 0
OfLevel a its es = AllByRecursion (λ e. level_of its e.item ≡ a) es

of_level_after : (a : ℕ) (its : List Item) (x : ℕ) (d : Edit) (es : List ItemEdit) → OfLevel a its es
    → OfLevel a (items_after its x d) es
of_level_after a its x d es h =
    All-weaker (λ e. level_of its e.item ≡ a) (λ e. level_of (items_after its x d) e.item ≡ a)
    (λ e k. level_after its x e.item d ∙ k) es h

edits_of_level : (a : ℕ) (its : List Item) (x : ℕ) (es : List Edit) → level_of its x ≡ a → OfLevel a its (edits_of x es)
edits_of_level a its x [] h = tt
edits_of_level a its x (e ∷ es) h = (h, edits_of_level a its x es h)

-- items: rows of the levels that pass stay, and the others become empty
module _ (p : ℕ → Bool) where
  abbrev masked_item : Item → Item
  masked_item it = record { level = it.level; row = cond (p it.level) it.row [] }

  abbrev masked_items : List Item → List Item
  masked_items its = map masked_item its

  change_seen : (e : Edit) (its : List Item) (x : ℕ) → p (level_of its x) ≡ true
      → masked_items (changed_at (item_after e) its x) ≡ changed_at (item_after e) (masked_items its) x
  change_seen e [] x h = refl
  change_seen e (it ∷ its) zero h = rw h
  change_seen e (it ∷ its) (suc x) h = ap (λ xs. masked_item it ∷ xs) (change_seen e its x h)

  change_hidden : (e : Edit) (its : List Item) (x : ℕ) → p (level_of its x) ≡ false
      → masked_items (changed_at (item_after e) its x) ≡ masked_items its
  change_hidden e [] x h = refl
  change_hidden e (it ∷ its) zero h = rw h
  change_hidden e (it ∷ its) (suc x) h = ap (λ xs. masked_item it ∷ xs) (change_hidden e its x h)

  edits_seen : (a : ℕ) (its : List Item) (es : List ItemEdit) → p a ≡ true → OfLevel a its es
      → masked_items (items_through its es) ≡ items_through (masked_items its) es
  edits_seen a its [] h k = refl
  edits_seen a its (e ∷ es) h k =
      let x = e.item in
      let one : masked_items (items_after its x e.edit) ≡ items_after (masked_items its) x e.edit =
      ap masked_items (after_is its x e.edit)
      ∙ change_seen e.edit its x (ap p k.0 ∙ h)
      ∙ sym (after_is (masked_items its) x e.edit) in
      edits_seen a (items_after its x e.edit) es h (of_level_after a its x e.edit es k.1)
      ∙ ap (λ xs. items_through xs es) one

  edits_hidden : (a : ℕ) (its : List Item) (es : List ItemEdit) → p a ≡ false → OfLevel a its es
      → masked_items (items_through its es) ≡ masked_items its
  edits_hidden a its [] h k = refl
  edits_hidden a its (e ∷ es) h k =
      let x = e.item in
      edits_hidden a (items_after its x e.edit) es h (of_level_after a its x e.edit es k.1)
      ∙ ap masked_items (after_is its x e.edit)
      ∙ change_hidden e.edit its x (ap p k.0 ∙ h)

  -- the edits of an end
  end_seen : (f : Chosen → Edit) (a n x : ℕ) (its : List Item) → p a ≡ true
      → end_edits f a n x (masked_items its) ≡ end_edits f a n x its
  end_seen f a n x [] h = refl
  end_seen f a n x (it ∷ its) h =
      elim (cases_Bool (eqb it.level a)) [
        | inl e ↦
            let seen : p it.level ≡ true = ap p (eqb-true it.level a e) ∙ h in
            rw (seen, end_seen f a n (x + 1) its h)
        | inr e ↦ rw (e, end_seen f a n (x + 1) its h)
      ]

  -- equal rows at the levels that pass are what the masks have
  level_masked : (its : List Item) (x : ℕ) → level_of (masked_items its) x ≡ level_of its x
  level_masked [] x = refl
  level_masked (it ∷ its) zero = refl
  level_masked (it ∷ its) (suc x) = level_masked its x

  row_masked : (its : List Item) (x : ℕ) → p (level_of its x) ≡ true → row_of (masked_items its) x ≡ row_of its x
  row_masked [] x h = refl
  row_masked (it ∷ its) zero h = rw h
  row_masked (it ∷ its) (suc x) h = row_masked its x h

  rows_from_masked : (its jts : List Item) → masked_items its ≡ masked_items jts
      → (x : ℕ) → p (level_of its x) ≡ true → row_of its x ≡ row_of jts x
  rows_from_masked its jts e x h =
      let levels : level_of jts x ≡ level_of its x =
      sym (level_masked jts x) ∙ ap (λ xs. level_of xs x) (sym e) ∙ level_masked its x in
      sym (row_masked its x h) ∙ ap (λ xs. row_of xs x) e ∙ row_masked jts x (ap p levels ∙ h)

  masked_from_rows : (its jts : List Item) → map (λ it. it.level) its ≡ map (λ it. it.level) jts
      → ((x : ℕ) → p (level_of its x) ≡ true → row_of its x ≡ row_of jts x) → masked_items its ≡ masked_items jts
  masked_from_rows [] [] e h = refl
  masked_from_rows [] (j ∷ jts) e h = cc
  masked_from_rows (i ∷ its) [] e h = cc
  masked_from_rows (i ∷ its) (j ∷ jts) e h =
      let levels : i.level ≡ j.level = cc in
      let more : map (λ it. it.level) its ≡ map (λ it. it.level) jts = cc in
      let rows : cond (p i.level) i.row [] ≡ cond (p i.level) j.row [] =
      elim (cases_Bool (p i.level)) [
        | inl t ↦ rw t (h 0 t)
        | inr t ↦ rw t
      ] in
      ap₂ ◌∷◌
      (ap₂ (λ n vs. record { level = n; row = vs }) levels (rows ∙ ap (λ n. cond (p n) j.row []) levels))
      (masked_from_rows its jts more (λ x. h (suc x)))

end_edit_level : (f : Chosen → Edit) (level : ℕ → ℕ) (a x : ℕ) (c : Option Chosen) → level x ≡ a
    → AllByRecursion (λ e. level e.item ≡ a) (end_edit f x c)
end_edit_level f level a x None h = tt
end_edit_level f level a x (Some c) h = (h, tt)

ends_at_level : (f : Chosen → Edit) (level : ℕ → ℕ) (a n x : ℕ) (its : List Item) → ((y : ℕ) → level (x + y) ≡ level_of its y)
    → AllByRecursion (λ e. level e.item ≡ a) (end_edits f a n x its)
ends_at_level f level a n x [] h = tt
ends_at_level f level a n x (it ∷ its) h =
    let here : x ≡ x + 0 = omega arith in
    let next : (y : ℕ) → x + 1 + y ≡ x + suc y = λ y. omega arith in
    let c = last_that (numbered n) it.row in
    All-append (λ e. level e.item ≡ a) (cond (eqb it.level a) (end_edit f x c) []) (end_edits f a n (x + 1) its)
    (cond_both (eqb it.level a) (end_edit f x c) [] (AllByRecursion (λ e. level e.item ≡ a))
    (λ e. end_edit_level f level a x c (ap level here ∙ h 0 ∙ eqb-true it.level a e)) (λ _. tt))
    (ends_at_level f level a n (x + 1) its (λ y. ap level (next y) ∙ h (suc y)))

ends_of_level : (f : Chosen → Edit) (a n : ℕ) (its : List Item) → OfLevel a its (end_edits f a n 0 its)
ends_of_level f a n its =
    let same : (y : ℕ) → 0 + y ≡ y = λ y. omega arith in
    ends_at_level f (level_of its) a n 0 its (λ y. ap (level_of its) (same y))

-- what is decided of an accepted call: its edits are of items of the caller's level
known_item : (o : Option Item) (it : Item) → known o UnknownItem ≡ Ok it → level_in o ≡ it.level
known_item None it h = cc
known_item (Some i) it h = cc

lower_edits : (c : Option Chosen) (r : Reading) → lower_read c ≡ Ok r → read_edits r ≡ []
lower_edits None r h = cc
lower_edits (Some c) r h =
    let none : Reading = record { value = c.version.value; edit = None } in
    let got = not_refused (is_pending c.version) (Ok none) LowerPending r h in
    let is : none ≡ r = cc in
    sym (ap read_edits is)

own_edits : (P : Parts) (s : State) (l n : ℕ) (h : Held) (it : Item) (r : Reading) → read_item P s l n h it ≡ Ok r
    → (it.level ≡ l) ⊎ (read_edits r ≡ [])
own_edits P s l n h it r e =
    let t = h.stamp in
    let own = own_read l n (last_that (up_to n) it.row) in
    let low = read_below P s t it in
    let lower = lower_read (last_that (older_than t) it.row) in
    let f = (passed (P.order.dominates l it.level) (cond (eqb it.level l) own low) NotDominated r e).1 in
    elim (cases_Bool (eqb it.level l)) [
      | inl same ↦ inl (eqb-true it.level l same)
      | inr other ↦
          let g : low ≡ Ok r = sym (cond-false (eqb it.level l) own low other) ∙ f in
          inr (lower_edits (last_that (older_than t) it.row) r
          (not_refused (ltb (floor P s it.level) t) lower (wait (waited_for P s it.level)) r g).1)
    ]

write_own : (l n v : ℕ) (h : Held) (it : Item) (w : Writing) → write_item l n v h it ≡ Ok w → it.level ≡ l
write_own l n v h it w e =
    let row = it.row in
    eqb-true it.level l
    (passed (eqb it.level l) (write_row row n h.stamp v (last_that (numbered n) row)) OtherLevel w e).0

read_of_level : (P : Parts) (s : State) (l n x : ℕ) (r : Reading) → reading P s l n x ≡ Ok r
    → OfLevel l s.items (edits_of x (read_edits r))
read_of_level P s l n x r e =
    let (h, _, f) = then_ok (sender P s l n) (λ h. and_then (item_of s x) (read_item P s l n h)) r e in
    let (it, i, g) = then_ok (item_of s x) (read_item P s l n h) r f in
    elim (own_edits P s l n h it r g) [
      | inl own ↦ edits_of_level l s.items x (read_edits r) (known_item (slice_get s.items x) it i ∙ own)
      | inr none ↦ rw none tt
    ]

write_of_level : (P : Parts) (s : State) (l n x v : ℕ) (w : Writing) → writing P s l n x v ≡ Ok w
    → OfLevel l s.items (edits_of x (write_edits w))
write_of_level P s l n x v w e =
    let (h, _, f) = then_ok (sender P s l n) (λ h. and_then (item_of s x) (write_item l n v h)) w e in
    let (it, i, g) = then_ok (item_of s x) (write_item l n v h) w f in
    edits_of_level l s.items x (write_edits w) (known_item (slice_get s.items x) it i ∙ write_own l n v h it w g)

-- what level l sees of a state: all else is blanked out
module _ (P : Parts) (l : ℕ) where
  abbrev sees : ℕ → Bool
  sees = P.order.dominates l

  abbrev seen : State → State
  seen s = record {
    sound = s.sound;
    clock = s.clock;
    tables = masked_tables sees s.tables;
    items = masked_items sees s.items;
  }

  -- what a call leaves, seen; and a call of what is seen
  hidden_settled : {A R : Type 0} (s : State) (f : A → R × State) (r : Result A Refusal)
      → ((a : A) → r ≡ Ok a → seen (f a).1 ≡ seen s) → seen (settled s f r).1 ≡ seen s
  hidden_settled s f (Err e) h = refl
  hidden_settled s f (Ok a) h = h a refl

  abbrev seen_of : {R : Type 0} → R × State → R × State
  seen_of p = (p.0, seen p.1)

  seen_settled : {A R : Type 0} (s : State) (f g : A → R × State) (r : Result A Refusal)
      → ((a : A) → r ≡ Ok a → g a ≡ seen_of (f a)) → settled (seen s) g r ≡ seen_of (settled s f r)
  seen_settled s f g (Err e) h = refl
  seen_settled s f g (Ok a) h = ap (λ p. (Ok p.0, p.1)) (h a refl)

  -- a hidden call changes nothing that is seen
  module _ (s : State) (a : ℕ) (not : sees a ≡ false) where
    ended_hidden : (f : Chosen → Edit) (n : ℕ) (h : Held) → seen (ended f s a n h).1 ≡ seen s
    ended_hidden f n h =
        ap₂ (λ ts its. record { sound = s.sound; clock = s.clock; tables = ts; items = its })
        (set_hidden sees s.tables a (freed (table_at s a) h.place) not)
        (edits_hidden sees a s.items (end_edits f a n 0 s.items) not (ends_of_level f a n s.items))

    edited_hidden : (es : List ItemEdit) → OfLevel a s.items es → seen (with_items s (items_through s.items es)) ≡ seen s
    edited_hidden es h =
        ap (λ its. record { sound = s.sound; clock = s.clock; tables = (seen s).tables; items = its })
        (edits_hidden sees a s.items es not h)

  step_hidden : (s : State) (c : Call) → visible P.order l c ≡ false → seen (step P s c).1 ≡ seen s
  step_hidden s Tick h = absurd (true≢false h)
  step_hidden s (Begin a d) h =
      hidden_settled s (admitted s a) (admission P s a d)
      (λ m _. ap (λ ts. record { sound = s.sound; clock = s.clock; tables = ts; items = (seen s).items })
      (set_hidden sees s.tables a (filled (table_at s a) m.place m.number m.stamp) h))
  step_hidden s (Read a n x) h =
      hidden_settled s (read_done s x) (reading P s a n x)
      (λ r e. edited_hidden s a h (edits_of x (read_edits r)) (read_of_level P s a n x r e))
  step_hidden s (Write a n x v) h =
      hidden_settled s (write_done s x) (writing P s a n x v)
      (λ w e. edited_hidden s a h (edits_of x (write_edits w)) (write_of_level P s a n x v w e))
  step_hidden s (Commit a n) h =
      hidden_settled s (ended commit_edit s a n) (sender P s a n) (λ k _. ended_hidden s a h commit_edit n k)
  step_hidden s (Abort a n) h =
      hidden_settled s (ended abort_edit s a n) (sender P s a n) (λ k _. ended_hidden s a h abort_edit n k)

  -- of a level that is seen, all that is asked is seen
  module _ (law : PartialOrder P.order) (s : State) (a : ℕ) (is : sees a ≡ true) where
    table_same : table_at (seen s) a ≡ table_at s a
    table_same = table_seen sees s.tables a is

    under_same : (q : ℕ → Bool) → ((b : ℕ) → q b ≡ true → P.order.dominates a b ≡ true)
        → collected q 0 (seen s).tables ≡ collected q 0 s.tables
    under_same q h =
        let same : (b : ℕ) → b ≡ 0 + b = λ b. omega arith in
        collected_seen sees q 0 s.tables (λ b e. law.transitive l a b is (h b (ap q (same b) ∙ e)))

    below_same : below P (seen s) a ≡ below P s a
    below_same =
        under_same (strictly_dominates P.order a) (λ b e. (and_parts (P.order.dominates a b) (not (eqb a b)) e).0)

    all_below_same : at_or_below P (seen s) a ≡ at_or_below P s a
    all_below_same = under_same (P.order.dominates a) (λ b e. e)

    stamp_same : (d : ℕ) → stamp_for P (seen s) a d ≡ stamp_for P s a d
    stamp_same d =
        ap₂ (λ (t : Table) (xs : List Active). P.placing d (max (least s.clock xs) t.stamp) s.clock (map entry xs))
        table_same below_same

    admission_same : (d : ℕ) → admission P (seen s) a d ≡ admission P s a d
    admission_same d = rw (stamp_same d, table_same)

    sender_same : (n : ℕ) → sender P (seen s) a n ≡ sender P s a n
    sender_same n = rw table_same

  module _ (law : PartialOrder P.order) (s : State) (a : ℕ) (is : sees a ≡ true) where
    read_item_same : (n : ℕ) (h : Held) (it : Item) → read_item P (seen s) a n h (masked_item sees it) ≡ read_item P s a n h it
    read_item_same n h it =
        elim (cases_Bool (P.order.dominates a it.level)) [
          | inl e ↦
              let above : sees it.level ≡ true = law.transitive l a it.level is e in
              rw (above, all_below_same law s it.level above)
          | inr e ↦ rw e
        ]

    write_item_same : (n v : ℕ) (h : Held) (it : Item) → write_item a n v h (masked_item sees it) ≡ write_item a n v h it
    write_item_same n v h it =
        elim (cases_Bool (eqb it.level a)) [
          | inl e ↦
              let above : sees it.level ≡ true = ap sees (eqb-true it.level a e) ∙ is in
              rw above
          | inr e ↦ rw e
        ]

    -- an item that is looked up
    found_same : {B : Type 0} (f g : Item → Result B Refusal) → ((it : Item) → f (masked_item sees it) ≡ g it) → (i : Option Item)
        → and_then (known (option_map (masked_item sees) i) UnknownItem) f ≡ and_then (known i UnknownItem) g
    found_same f g h None = refl
    found_same f g h (Some it) = h it

    item_same : {B : Type 0} (x : ℕ) (f g : Item → Result B Refusal) → ((it : Item) → f (masked_item sees it) ≡ g it)
        → and_then (item_of (seen s) x) f ≡ and_then (item_of s x) g
    item_same x f g h =
        ap (λ i. and_then (known i UnknownItem) f) (slice_get-map (masked_item sees) s.items x) ∙ found_same f g h (slice_get s.items x)

    sent_same : {B : Type 0} (n : ℕ) (f g : Held → Result B Refusal) → ((h : Held) → f h ≡ g h)
        → and_then (sender P (seen s) a n) f ≡ and_then (sender P s a n) g
    sent_same n f g h = ap₂ and_then (sender_same law s a is n) (fun_ext h)

    reading_same : (n x : ℕ) → reading P (seen s) a n x ≡ reading P s a n x
    reading_same n x =
        sent_same n (λ h. and_then (item_of (seen s) x) (read_item P (seen s) a n h)) (λ h. and_then (item_of s x) (read_item P s a n h))
        (λ h. item_same x (read_item P (seen s) a n h) (read_item P s a n h) (read_item_same n h))

    writing_same : (n x v : ℕ) → writing P (seen s) a n x v ≡ writing P s a n x v
    writing_same n x v =
        sent_same n (λ h. and_then (item_of (seen s) x) (write_item a n v h)) (λ h. and_then (item_of s x) (write_item a n v h))
        (λ h. item_same x (write_item a n v h) (write_item a n v h) (write_item_same n v h))

    -- what an accepted call leaves
    set_same : (f : Table → Table)
        → set (seen s).tables a (f (table_at (seen s) a)) ≡ masked_tables sees (set s.tables a (f (table_at s a)))
    set_same f =
        ap (λ t. set (seen s).tables a (f t)) (table_same law s a is)
        ∙ sym (set_seen sees s.tables a (f (table_at s a)) is)

    edited_same : (es : List ItemEdit) → OfLevel a s.items es
        → with_items (seen s) (items_through (seen s).items es) ≡ seen (with_items s (items_through s.items es))
    edited_same es h = ap (with_items (seen s)) (sym (edits_seen sees a s.items es is h))

    ended_same : (f : Chosen → Edit) (n : ℕ) (h : Held) → ended f (seen s) a n h ≡ seen_of (ended f s a n h)
    ended_same f n h =
        ap₂ (λ ts its. (tt, record { sound = s.sound; clock = s.clock; tables = ts; items = its }))
        (set_same (λ t. freed t h.place))
        (ap (items_through (seen s).items) (end_seen sees f a n 0 s.items is)
        ∙ sym (edits_seen sees a s.items (end_edits f a n 0 s.items) is (ends_of_level f a n s.items)))

    end_same : (f : Chosen → Edit) (n : ℕ)
        → settled (seen s) (ended f (seen s) a n) (sender P (seen s) a n) ≡ seen_of (settled s (ended f s a n) (sender P s a n))
    end_same f n =
        ap (settled (seen s) (ended f (seen s) a n)) (sender_same law s a is n)
        ∙ seen_settled s (ended f s a n) (ended f (seen s) a n) (sender P s a n) (λ h _. ended_same f n h)

  step_seen : PartialOrder P.order → (s : State) (c : Call) → visible P.order l c ≡ true
      → step P (seen s) c ≡ seen_of (step P s c)
  step_seen law s Tick h =
      ap (answered_by Clock) (seen_settled s (λ c. (c, with_clock s c)) (λ c. (c, with_clock (seen s) c)) (next_clock s) (λ c _. refl))
  step_seen law s (Begin a d) h =
      ap (answered_by (λ p. Begun p.0 p.1))
      (ap (settled (seen s) (admitted (seen s) a)) (admission_same law s a h d)
      ∙ seen_settled s (admitted s a) (admitted (seen s) a) (admission P s a d)
      (λ m _. ap (λ ts. ((m.number, m.stamp), record { sound = s.sound; clock = s.clock; tables = ts; items = (seen s).items }))
      (set_same law s a h (λ t. filled t m.place m.number m.stamp))))
  step_seen law s (Read a n x) h =
      ap (answered_by Value)
      (ap (settled (seen s) (read_done (seen s) x)) (reading_same law s a h n x)
      ∙ seen_settled s (read_done s x) (read_done (seen s) x) (reading P s a n x)
      (λ r e. ap (λ t. (r.value, t)) (edited_same law s a h (edits_of x (read_edits r)) (read_of_level P s a n x r e))))
  step_seen law s (Write a n x v) h =
      ap (answered_by (λ _. Done))
      (ap (settled (seen s) (write_done (seen s) x)) (writing_same law s a h n x v)
      ∙ seen_settled s (write_done s x) (write_done (seen s) x) (writing P s a n x v)
      (λ w e. ap (λ t. (tt, t)) (edited_same law s a h (edits_of x (write_edits w)) (write_of_level P s a n x v w e))))
  step_seen law s (Commit a n) h = ap (answered_by (λ _. Done)) (end_same law s a h commit_edit n)
  step_seen law s (Abort a n) h = ap (answered_by (λ _. Done)) (end_same law s a h abort_edit n)

  -- a run
  run_seen : PartialOrder P.order → (s : State) (cs : List Call)
      → (seen_log P.order l (log P s cs) ≡ log P (seen s) (seen_calls P.order l cs))
      × (seen (run P s cs).1 ≡ (run P (seen s) (seen_calls P.order l cs)).1)
  run_seen law s [] = (refl, refl)
  run_seen law s (c ∷ cs) =
      let rest = run_seen law (step P s c).1 cs in
      let ds = seen_calls P.order l cs in
      elim (cases_Bool (visible P.order l c)) [
        | inl e ↦
            let same = sym (step_seen law s c e) in
            rw e (
              ap (λ xs. record { call = c; answer = (step P s c).0 } ∷ xs) rest.0
                  ∙ ap (λ (r : Answer × State). record { call = c; answer = r.0 } ∷ log P r.1 ds) same,
              rest.1 ∙ ap (λ (r : Answer × State). (run P r.1 ds).1) same,
            )
        | inr e ↦
            let same = step_hidden s c e in
            rw e (rest.0 ∙ ap (λ t. log P t ds) same, rest.1 ∙ ap (λ t. (run P t ds).1) same)
      ]

-- parts that mean the same are the same
same_parts : (P Q : Parts) → SameParts P Q → P ≡ Q
same_parts P Q h = λ i. record {
  order = record { levels = h.levels i; dominates = λ a b. h.dominates a b i };
  placing = λ d lo hi es. h.placing d lo hi es i;
}

-- a start is known by its items
abbrev starting : List Item → State
starting its = record { sound = true; clock = 1; tables = replicate 16 empty_table; items = its }

start_is : (P : Parts) (s : State) → Start P s → s ≡ starting s.items
start_is P s h =
    h.fresh ∙ ap (λ u. record { sound = not (is_some u); clock = 1; tables = replicate 16 empty_table; items = s.items }) h.fit

same_order : (P : Parts) (v w : State) (l : ℕ) (cs ds : List Call) → Start P v → Start P w
    → SameItems v w → SameRows P.order l v w → seen_calls P.order l cs ≡ seen_calls P.order l ds
    → (seen_log P.order l (log P v cs) ≡ seen_log P.order l (log P w ds))
    × SameRows P.order l (run P v cs).1 (run P w ds).1
same_order P v w l cs ds sv sw items rows calls =
    let same : seen P l v ≡ seen P l w =
    ap (seen P l) (start_is P v sv)
    ∙ ap (with_items (seen P l (starting []))) (masked_from_rows (sees P l) v.items w.items items rows)
    ∙ sym (ap (seen P l) (start_is P w sw)) in
    let law = sv.lawful.order in
    let first = run_seen P l law v cs in
    let second = run_seen P l law w ds in (
      first.0 ∙ ap₂ (log P) same calls ∙ sym second.0,
      rows_from_masked (sees P l) (run P v cs).1.items (run P w ds).1.items
          (ap (λ s. s.items) (first.1 ∙ ap₂ (λ s es. (run P s es).1) same calls ∙ sym second.1)),
    )

pub hidden_calls_change_no_visible_answer : HiddenCallsChangeNoVisibleAnswer
hidden_calls_change_no_visible_answer P Q v w l cs ds sv sw parts items rows calls =
    subst
    (λ (R : Parts). Start R w
    → (seen_log P.order l (log P v cs) ≡ seen_log P.order l (log R w ds)) × SameRows P.order l (run P v cs).1 (run R w ds).1)
    (same_parts P Q parts) (λ at. same_order P v w l cs ds sv at items rows calls) sw
