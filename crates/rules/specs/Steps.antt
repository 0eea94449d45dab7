-- The six calls: what is decided of each, in the order of its checks, and what an accepted one leaves. A refused call
-- leaves the state as it was. Numbers in comments are those of the refusals, in the order of the checks. Assumes nothing.
use Rattle.std.specs.Prelude.{ℕ, ◌+◌, max, Bool, true, false, cond, not, ◌&&◌, List, [], ◌∷◌, ◌++◌, map, length, Some, None, Ok, Err, Option, Result, ◌==◌, nat_lt}
use Rattle.std.specs.List.{slice_get}
use Rattle.shelves.specs.Items.{Item}
use Rattle.shelves.specs.Rows.{is_committed}
use Rattle.shelves.specs.declared.edit.Edit.{Edit}
use Rattle.shelves.specs.declared.edit.Edit.TheVariants.{Put, Insert, Remove}
use Rattle.shelves.specs.declared.version.Version.{Version}
use Rattle.tables.specs.Tables.{held, first_free, filled, freed}
use Rattle.tables.specs.declared.place.Active.{Active}
use Rattle.tables.specs.declared.place.Held.{Held}
use Rattle.rules.specs.Choices.{last_that, numbered, up_to, before, older_than, is_pending, marked, with_value, committed, pending}
use Rattle.rules.specs.States.{Parts, State, table_at, with_clock, with_table, with_items, ItemEdit, edits_of, items_through}
use Rattle.rules.specs.Watermarks.{below, floor, bound, waited_for, entry}
use Rattle.rules.specs.declared.decision.Admission.{Admission}
use Rattle.rules.specs.declared.decision.Chosen.{Chosen}
use Rattle.rules.specs.declared.decision.Reading.{Reading}
use Rattle.rules.specs.declared.decision.Writing.{Writing}
use Rattle.rules.specs.declared.refusal.Refusal.{Refusal}
use Rattle.rules.specs.declared.refusal.Refusal.TheVariants.{Unfit, ClockAtEnd, UnknownLevel, DegreeTooHigh, NotActive, UnknownItem, NotDominated, OtherLevel, TableFull, NumbersAtEnd, PendingOther, ReadLater, RowFull, Dropped, Wait, LowerPending}

-- the answer to a call, and the state after it
abbrev pub Outcome : Type 0 → Type 0
Outcome R = Result R Refusal × State

-- what was decided goes into the answer and the state; a refusal leaves the state
abbrev pub settled : {A R : Type 0} → State → (A → R × State) → Result A Refusal → Outcome R
settled s f (Err e) = (Err e, s)
settled s f (Ok a) = (Ok (f a).0, (f a).1)

-- one decision after another; the first refusal counts
abbrev pub and_then : {A B : Type 0} → Result A Refusal → (A → Result B Refusal) → Result B Refusal
and_then (Err e) f = Err e
and_then (Ok a) f = f a

-- what was found, or a refusal
abbrev pub known : {A : Type 0} → Option A → Refusal → Result A Refusal
known None e = Err e
known (Some a) e = Ok a

-- 4, then 6, before anything else is asked of a level
abbrev pub at_level : {A : Type 0} → Parts → State → ℕ → Result A Refusal → Result A Refusal
at_level P s l r = cond s.sound (cond (nat_lt l P.order.levels) r (Err UnknownLevel)) (Err Unfit)

-- 4, 6, 8: the active transaction n of level l
abbrev pub sender : Parts → State → ℕ → ℕ → Result Held Refusal
sender P s l n = at_level P s l (known (held (table_at s l) n) NotActive)

-- 9: the item
abbrev pub item_of : State → ℕ → Result Item Refusal
item_of s x = known (slice_get s.items x) UnknownItem

-- tick: 4, 5
abbrev pub next_clock : State → Result ℕ Refusal
next_clock s = cond s.sound (cond (nat_lt s.clock 4294967295) (Ok (s.clock + 1)) (Err ClockAtEnd)) (Err Unfit)

abbrev pub tick : State → Outcome ℕ
tick s = settled s (λ c. (c, with_clock s c)) (next_clock s)

-- begin: 4, 6, 7, 13, 12

-- the lowest stamp that a new transaction of level l may have
abbrev pub lowest : Parts → State → ℕ → ℕ
lowest P s l = max (bound P s l) (table_at s l).stamp

-- the stamp that the placement answers
abbrev pub stamp_for : Parts → State → ℕ → ℕ → ℕ
stamp_for P s l d = P.placing d (lowest P s l) s.clock (map entry (below P s l))

-- place, number and stamp of the new transaction
abbrev pub admission : Parts → State → ℕ → ℕ → Result Admission Refusal
admission P s l d =
    at_level P s l
    (cond (nat_lt 100 d) (Err DegreeTooHigh)
    (cond ((table_at s l).number == 4294967295) (Err NumbersAtEnd)
    (and_then (known (first_free (table_at s l)) TableFull)
    (λ at. Ok (record { place = at; number = (table_at s l).number + 1; stamp = stamp_for P s l d })))))

-- what an accepted begin answers and leaves
abbrev pub admitted : State → ℕ → Admission → (ℕ × ℕ) × State
admitted s l a = ((a.number, a.stamp), with_table s l (filled (table_at s l) a.place a.number a.stamp))

abbrev pub begin : Parts → State → ℕ → ℕ → Outcome (ℕ × ℕ)
begin P s l d = settled s (admitted s l) (admission P s l d)

-- read: 4, 6, 8, 9, 10, then 17, 14 at its own level or 18, 17, 19 below

-- of transaction n of level l, in a row of its own level: the last version with a number not above n, which it marks
abbrev pub own_read : ℕ → ℕ → Option Chosen → Result Reading Refusal
own_read l n None = Err Dropped
own_read l n (Some c) =
    cond (is_pending c.version && not (c.version.number == n)) (Err (PendingOther l c.version.number))
    (Ok (record { value = c.version.value; edit = Some (Put c.place (marked n c.version)) }))

-- a refusal that names the one waited for; where there is none (in no state that a run reaches), level and number 0
abbrev pub wait : Option Active → Refusal
wait None = Wait 0 0
wait (Some x) = Wait x.level x.number

-- in a row of a lower level: the last version with a stamp below the reader's, left as it is
abbrev pub lower_read : Option Chosen → Result Reading Refusal
lower_read None = Err Dropped
lower_read (Some c) = cond (is_pending c.version) (Err LowerPending) (Ok (record { value = c.version.value; edit = None }))

-- 18 where the floor of the item's level is below the reader's stamp t
abbrev pub read_below : Parts → State → ℕ → Item → Result Reading Refusal
read_below P s t it =
    cond (nat_lt (floor P s it.level) t) (Err (wait (waited_for P s it.level))) (lower_read (last_that (older_than t) it.row))

-- 10, then by the item's level
abbrev pub read_item : Parts → State → ℕ → ℕ → Held → Item → Result Reading Refusal
read_item P s l n h it =
    cond (P.order.dominates l it.level)
    (cond (it.level == l) (own_read l n (last_that (up_to n) it.row)) (read_below P s h.stamp it))
    (Err NotDominated)

abbrev pub reading : Parts → State → ℕ → ℕ → ℕ → Result Reading Refusal
reading P s l n x = and_then (sender P s l n) (λ h. and_then (item_of s x) (read_item P s l n h))

-- the edits of a read: one, or none
abbrev pub read_edits : Reading → List Edit
read_edits r = elim r.edit [ None ↦ [] | Some e ↦ e ∷ [] ]

-- what an accepted read answers and leaves
abbrev pub read_done : State → ℕ → Reading → ℕ × State
read_done s x r = (r.value, with_items s (items_through s.items (edits_of x (read_edits r))))

abbrev pub read : Parts → State → ℕ → ℕ → ℕ → Outcome ℕ
read P s l n x = settled s (read_done s x) (reading P s l n x)

-- write: 4, 6, 8, 9, 11, then, without a version of its own, 17, 15, 16

-- the two oldest versions are committed
abbrev pub two_committed : List Version → Bool
two_committed [] = false
two_committed (v ∷ []) = false
two_committed (v ∷ w ∷ vs) = is_committed v.state && is_committed w.state

-- a version goes in behind its predecessor; in a full row the oldest is removed before, so that the place is one less
abbrev pub write_behind : List Version → ℕ → ℕ → ℕ → Option Chosen → Result Writing Refusal
write_behind row n t x None = Err Dropped
write_behind row n t x (Some c) =
    cond (nat_lt n c.version.mark) (Err ReadLater)
    (cond (nat_lt (length row) 8) (Ok (record { drop = false; edit = Insert (c.place + 1) (pending n t x) }))
    (cond (two_committed row) (Ok (record { drop = true; edit = Insert c.place (pending n t x) })) (Err RowFull)))

-- its own version, if there is one, gets the new value
abbrev pub write_row : List Version → ℕ → ℕ → ℕ → Option Chosen → Result Writing Refusal
write_row row n t x None = write_behind row n t x (last_that (before n) row)
write_row row n t x (Some c) = Ok (record { drop = false; edit = Put c.place (with_value x c.version) })

-- 11, then by the row
abbrev pub write_item : ℕ → ℕ → ℕ → Held → Item → Result Writing Refusal
write_item l n x h it =
    cond (it.level == l) (write_row it.row n h.stamp x (last_that (numbered n) it.row)) (Err OtherLevel)

abbrev pub writing : Parts → State → ℕ → ℕ → ℕ → ℕ → Result Writing Refusal
writing P s l n x v = and_then (sender P s l n) (λ h. and_then (item_of s x) (write_item l n v h))

-- the edits of a write: the oldest version goes where it has to, then the edit
abbrev pub write_edits : Writing → List Edit
write_edits w = cond w.drop (Remove 0 ∷ w.edit ∷ []) (w.edit ∷ [])

-- what an accepted write leaves
abbrev pub write_done : State → ℕ → Writing → Unit {0} × State
write_done s x w = (tt, with_items s (items_through s.items (edits_of x (write_edits w))))

abbrev pub write : Parts → State → ℕ → ℕ → ℕ → ℕ → Outcome (Unit {0})
write P s l n x v = settled s (write_done s x) (writing P s l n x v)

-- commit and abort: 4, 6, 8

-- what a commit makes of a transaction's version, and what an abort makes of it
abbrev pub commit_edit : Chosen → Edit
commit_edit c = Put c.place (committed c.version)

abbrev pub abort_edit : Chosen → Edit
abort_edit c = Remove c.place

-- the edit of an end in item x: one where the transaction has a version, otherwise none
abbrev pub end_edit : (Chosen → Edit) → ℕ → Option Chosen → List ItemEdit
end_edit f x None = []
end_edit f x (Some c) = record { item = x; edit = f c } ∷ []

-- the edits of an end: one for each item from x on that is of the level and has a version of the transaction
abbrev pub end_edits : (Chosen → Edit) → ℕ → ℕ → ℕ → List Item → List ItemEdit
end_edits f l n x [] = []
end_edits f l n x (it ∷ its) =
    cond (it.level == l) (end_edit f x (last_that (numbered n) it.row)) [] ++ end_edits f l n (x + 1) its

-- the transaction's place is freed, and its versions are edited
abbrev pub ended : (Chosen → Edit) → State → ℕ → ℕ → Held → Unit {0} × State
ended f s l n h =
    (tt, with_items (with_table s l (freed (table_at s l) h.place)) (items_through s.items (end_edits f l n 0 s.items)))

abbrev pub commit : Parts → State → ℕ → ℕ → Outcome (Unit {0})
commit P s l n = settled s (ended commit_edit s l n) (sender P s l n)

abbrev pub abort : Parts → State → ℕ → ℕ → Outcome (Unit {0})
abort P s l n = settled s (ended abort_edit s l n) (sender P s l n)
