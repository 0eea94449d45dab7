-- What an accepted call says of the tests that it passed. Assumes nothing.
use Rattle.std.proofs.Common.{◌≡◌, ℕ, ◌+◌, ◌<◌, ◌≤◌, Bool, true, false, cond, not, ◌&&◌, eqb, ltb, ◌⊎◌, List, length, Some, None, Ok, Err, Option, Result, sym, refl, ap, ◌∙◌, inl, inr}
use Rattle.std.specs.List.{slice_get}
use Rattle.std.proofs.lemmas.Bool.{ltb-true, ltb-false, eqb-true, eqb-false}
use Rattle.shelves.specs.Items.{Item}
use Rattle.shelves.specs.declared.edit.Edit.TheVariants.{Put, Insert}
use Rattle.shelves.specs.declared.version.Version.{Version}
use Rattle.tables.specs.Tables.{held, first_free}
use Rattle.tables.specs.declared.place.Held.{Held}
use Rattle.rules.specs.Choices.{last_that, numbered, up_to, before, older_than, is_pending, marked, with_value, pending}
use Rattle.rules.specs.States.{Parts, State, table_at}
use Rattle.rules.specs.Steps.{at_level, and_then, known, sender, item_of, next_clock, stamp_for, admission, own_read, lower_read, read_below, read_item, reading, two_committed, write_behind, write_row, write_item, writing}
use Rattle.rules.specs.Watermarks.{floor}
use Rattle.rules.specs.declared.decision.Admission.{Admission}
use Rattle.rules.specs.declared.decision.Chosen.{Chosen}
use Rattle.rules.specs.declared.decision.Reading.{Reading}
use Rattle.rules.specs.declared.decision.Writing.{Writing}
use Rattle.rules.specs.declared.refusal.Refusal.{Refusal}
use Rattle.rules.specs.declared.refusal.Refusal.TheVariants.{RowFull}

-- a test whose other way is a refusal
pub passed : {A : Type 0} (b : Bool) (r : Result A Refusal) (e : Refusal) (a : A) → cond b r (Err e) ≡ Ok a → (b ≡ true) × (r ≡ Ok a)
passed true r e a h = (refl, h)
passed false r e a h = absurd cc

pub not_refused : {A : Type 0} (b : Bool) (r : Result A Refusal) (e : Refusal) (a : A) → cond b (Err e) r ≡ Ok a → (b ≡ false) × (r ≡ Ok a)
not_refused true r e a h = absurd cc
not_refused false r e a h = (refl, h)

pub then_ok : {A B : Type 0} (r : Result A Refusal) (f : A → Result B Refusal) (b : B) → and_then r f ≡ Ok b → (a : A) × (r ≡ Ok a) × (f a ≡ Ok b)
then_ok (Ok a) f b h = (a, refl, h)
then_ok (Err e) f b h = absurd cc

pub known_ok : {A : Type 0} (o : Option A) (e : Refusal) (a : A) → known o e ≡ Ok a → o ≡ Some a
known_ok None e a h = absurd cc
known_ok (Some b) e a h = cc

pub record AtLevel {A : Type 0} (P : Parts) (s : State) (l : ℕ) (r : Result A Refusal) (a : A) : Type 0 where
  pub sound : s.sound ≡ true
  pub level : l < P.order.levels
  pub rest : r ≡ Ok a

pub at_level_ok : {A : Type 0} (P : Parts) (s : State) (l : ℕ) (r : Result A Refusal) (a : A) → at_level P s l r ≡ Ok a → AtLevel P s l r a
at_level_ok P s l r a h =
    let p = passed s.sound _ _ a h in
    let q = passed (ltb l P.order.levels) r _ a p.1 in
    record { sound = p.0; level = ltb-true l P.order.levels q.0; rest = q.1 }

pub record IsSender (P : Parts) (s : State) (l n : ℕ) (h : Held) : Type 0 where
  pub level : l < P.order.levels
  pub holds : held (table_at s l) n ≡ Some h

pub sender_ok : (P : Parts) (s : State) (l n : ℕ) (h : Held) → sender P s l n ≡ Ok h → IsSender P s l n h
sender_ok P s l n h e =
    let p = at_level_ok P s l (known (held (table_at s l) n) _) h e in
    record { level = p.level; holds = known_ok (held (table_at s l) n) _ h p.rest }

pub record IsAdmission (P : Parts) (s : State) (l d : ℕ) (a : Admission) : Type 0 where
  pub level : l < P.order.levels
  pub place : first_free (table_at s l) ≡ Some a.place
  pub number : a.number ≡ (table_at s l).number + 1
  pub stamp : a.stamp ≡ stamp_for P s l d

pub admission_ok : (P : Parts) (s : State) (l d : ℕ) (a : Admission) → admission P s l d ≡ Ok a → IsAdmission P s l d a
admission_ok P s l d a e =
    let p = at_level_ok P s l _ a e in
    let q = not_refused (ltb 100 d) _ _ a p.rest in
    let r = not_refused (eqb (table_at s l).number 4294967295) _ _ a q.1 in
    let f = then_ok (known (first_free (table_at s l)) _) _ a r.1 in
    let k = known_ok (first_free (table_at s l)) _ f.0 f.1 in
    let same : record { place = f.0; number = (table_at s l).number + 1; stamp = stamp_for P s l d } ≡ a = cc in
    record {
      level = p.level;
      place = k ∙ ap (λ (b : Admission). Some b.place) same;
      number = ap (λ (b : Admission). b.number) (sym same);
      stamp = ap (λ (b : Admission). b.stamp) (sym same);
    }

pub record OwnReading (l n : ℕ) (it : Item) (r : Reading) : Type 0 where
  pub level : it.level ≡ l
  pub chosen : Chosen
  pub last : last_that (up_to n) it.row ≡ Some chosen
  pub owned : (is_pending chosen.version && not (eqb chosen.version.number n)) ≡ false
  pub result : r ≡ record { value = chosen.version.value; edit = Some (Put chosen.place (marked n chosen.version)) }

pub record LowerReading (P : Parts) (s : State) (l t : ℕ) (it : Item) (r : Reading) : Type 0 where
  pub level : it.level ≡ l → ⊥
  pub floor : t ≤ floor P s it.level
  pub chosen : Chosen
  pub last : last_that (older_than t) it.row ≡ Some chosen
  pub owned : is_pending chosen.version ≡ false
  pub result : r ≡ record { value = chosen.version.value; edit = None }

pub record IsReading (P : Parts) (s : State) (l n x : ℕ) (r : Reading) : Type 0 where
  pub held : Held
  pub from : IsSender P s l n held
  pub item : Item
  pub found : slice_get s.items x ≡ Some item
  pub dominates : P.order.dominates l item.level ≡ true
  pub way : OwnReading l n item r ⊎ LowerReading P s l held.stamp item r

own_ok : (l n : ℕ) (it : Item) (o : Option Chosen) (r : Reading) → it.level ≡ l → last_that (up_to n) it.row ≡ o → own_read l n o ≡ Ok r → OwnReading l n it r
own_ok l n it None r e q h = absurd cc
own_ok l n it (Some c) r e q h =
    let p = not_refused (is_pending c.version && not (eqb c.version.number n)) _ _ r h in
    record { level = e; chosen = c; last = q; owned = p.0; result = cc }

lower_ok : (P : Parts) (s : State) (l t : ℕ) (it : Item) (o : Option Chosen) (r : Reading) → (it.level ≡ l → ⊥) → t ≤ floor P s it.level
    → last_that (older_than t) it.row ≡ o → lower_read o ≡ Ok r → LowerReading P s l t it r
lower_ok P s l t it None r e f q h = absurd cc
lower_ok P s l t it (Some c) r e f q h =
    let p = not_refused (is_pending c.version) _ _ r h in
    record { level = e; floor = f; chosen = c; last = q; owned = p.0; result = cc }

read_way : (P : Parts) (s : State) (l n : ℕ) (h : Held) (it : Item) (b : Bool) (r : Reading) → eqb it.level l ≡ b
    → cond b (own_read l n (last_that (up_to n) it.row)) (read_below P s h.stamp it) ≡ Ok r
    → OwnReading l n it r ⊎ LowerReading P s l h.stamp it r
read_way P s l n h it true r q e = inl (own_ok l n it (last_that (up_to n) it.row) r (eqb-true it.level l q) refl e)
read_way P s l n h it false r q e =
    let p = not_refused (ltb (floor P s it.level) h.stamp) _ _ r e in
    inr (lower_ok P s l h.stamp it (last_that (older_than h.stamp) it.row) r (eqb-false it.level l q)
    (ltb-false (floor P s it.level) h.stamp p.0) refl p.1)

pub reading_ok : (P : Parts) (s : State) (l n x : ℕ) (r : Reading) → reading P s l n x ≡ Ok r → IsReading P s l n x r
reading_ok P s l n x r e =
    let f = then_ok (sender P s l n) _ r e in
    let g = then_ok (item_of s x) (read_item P s l n f.0) r f.2 in
    let d = passed (P.order.dominates l g.0.level) _ _ r g.2 in
    record {
      held = f.0;
      from = sender_ok P s l n f.0 f.1;
      item = g.0;
      found = known_ok (slice_get s.items x) _ g.0 g.1;
      dominates = d.0;
      way = read_way P s l n f.0 g.0 (eqb g.0.level l) r refl d.1;
    }

-- a write over the own version
pub record OwnWriting (n a : ℕ) (it : Item) (w : Writing) : Type 0 where
  pub chosen : Chosen
  pub last : last_that (numbered n) it.row ≡ Some chosen
  pub result : w ≡ record { drop = false; edit = Put chosen.place (with_value a chosen.version) }

-- a new version behind its predecessor; in a full row the oldest goes
pub record NewWriting (n t a : ℕ) (it : Item) (w : Writing) : Type 0 where
  pub none : last_that (numbered n) it.row ≡ None
  pub chosen : Chosen
  pub last : last_that (before n) it.row ≡ Some chosen
  pub unread : chosen.version.mark ≤ n
  pub room : ((length it.row < 8) × (w ≡ record { drop = false; edit = Insert (chosen.place + 1) (pending n t a) }))
      ⊎ ((8 ≤ length it.row) × (two_committed it.row ≡ true) × (w ≡ record { drop = true; edit = Insert chosen.place (pending n t a) }))

pub record IsWriting (P : Parts) (s : State) (l n x a : ℕ) (w : Writing) : Type 0 where
  pub held : Held
  pub from : IsSender P s l n held
  pub item : Item
  pub found : slice_get s.items x ≡ Some item
  pub level : item.level ≡ l
  pub way : OwnWriting n a item w ⊎ NewWriting n held.stamp a item w

room_way : (row : List Version) (n t a : ℕ) (c : Chosen) (b : Bool) (w : Writing) → ltb (length row) 8 ≡ b
    → cond b (Ok (record { drop = false; edit = Insert (c.place + 1) (pending n t a) }))
    (cond (two_committed row) (Ok (record { drop = true; edit = Insert c.place (pending n t a) })) (Err RowFull)) ≡ Ok w
    → ((length row < 8) × (w ≡ record { drop = false; edit = Insert (c.place + 1) (pending n t a) }))
    ⊎ ((8 ≤ length row) × (two_committed row ≡ true) × (w ≡ record { drop = true; edit = Insert c.place (pending n t a) }))
room_way row n t a c true w q e = inl (ltb-true (length row) 8 q, cc)
room_way row n t a c false w q e =
    let p = passed (two_committed row) _ _ w e in
    inr (ltb-false (length row) 8 q, p.0, cc)

new_ok : (it : Item) (n t a : ℕ) (o : Option Chosen) (w : Writing) → last_that (numbered n) it.row ≡ None → last_that (before n) it.row ≡ o
    → write_behind it.row n t a o ≡ Ok w → NewWriting n t a it w
new_ok it n t a None w none q e = absurd cc
new_ok it n t a (Some c) w none q e =
    let p = not_refused (ltb n c.version.mark) _ _ w e in
    record {
      none = none;
      chosen = c;
      last = q;
      unread = ltb-false n c.version.mark p.0;
      room = room_way it.row n t a c (ltb (length it.row) 8) w refl p.1;
    }

write_way : (it : Item) (n t a : ℕ) (o : Option Chosen) (w : Writing) → last_that (numbered n) it.row ≡ o → write_row it.row n t a o ≡ Ok w
    → OwnWriting n a it w ⊎ NewWriting n t a it w
write_way it n t a None w q e = inr (new_ok it n t a (last_that (before n) it.row) w q refl e)
write_way it n t a (Some c) w q e = inl (record { chosen = c; last = q; result = cc })

pub writing_ok : (P : Parts) (s : State) (l n x a : ℕ) (w : Writing) → writing P s l n x a ≡ Ok w → IsWriting P s l n x a w
writing_ok P s l n x a w e =
    let f = then_ok (sender P s l n) _ w e in
    let g = then_ok (item_of s x) (write_item l n a f.0) w f.2 in
    let d = passed (eqb g.0.level l) _ _ w g.2 in
    record {
      held = f.0;
      from = sender_ok P s l n f.0 f.1;
      item = g.0;
      found = known_ok (slice_get s.items x) _ g.0 g.1;
      level = eqb-true g.0.level l d.0;
      way = write_way g.0 n f.0.stamp a (last_that (numbered n) g.0.row) w refl d.1;
    }

pub next_clock_ok : (s : State) (c : ℕ) → next_clock s ≡ Ok c → c ≡ s.clock + 1
next_clock_ok s c e =
    let p = passed s.sound _ _ c e in
    let q = passed (ltb s.clock 4294967295) _ _ c p.1 in
    cc
