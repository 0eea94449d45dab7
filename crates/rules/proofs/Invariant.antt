-- What every reached state has to do with the history that led to it. Assumes nothing.
use Rattle.std.proofs.Common.{◌≡◌, ℕ, ◌<◌, ◌≤◌, true, ◌⊎◌, List, [], ◌∷◌, length, get_or, Some, None}
use Rattle.shelves.specs.Items.{level_of, row_of}
use Rattle.shelves.specs.Rows.{keeps_rule}
use Rattle.shelves.specs.declared.version.State.TheVariants.{Committed, Pending}
use Rattle.shelves.specs.declared.version.Version.{Version}
use Rattle.tables.specs.Tables.{empty_table}
use Rattle.tables.specs.declared.place.Place.TheVariants.{Open}
use Rattle.tables.specs.declared.table.Table.{Table}
use Rattle.rules.specs.Members.{In}
use Rattle.rules.specs.Serial.{newest}
use Rattle.rules.specs.States.{Parts, State}
use Rattle.rules.specs.Watermarks.{floor, strictly_dominates}
use Rattle.rules.proofs.History.{Event, idle, began, saw, stored, ended, last_stored, Began, Ended, Precedes, Writer}
use Rattle.rules.proofs.Tabled.{Distinct}

abbrev pub table_of : List Table → ℕ → Table
table_of ts l = get_or ts l empty_table

-- transaction n with stamp t is active at level l
abbrev pub ActiveIn : List Table → ℕ → ℕ → ℕ → Type 0
ActiveIn ts l n t = In (Open n t) (table_of ts l).places

-- v is the start: its items and their levels stay
pub record Frame (v s : State) : Type 0 where
  pub sound : s.sound ≡ true
  pub clock : 1 ≤ s.clock
  pub tables : length s.tables ≡ 16
  pub count : length s.items ≡ length v.items
  pub levels : (x : ℕ) → level_of s.items x ≡ level_of v.items x
  pub stamps : (l : ℕ) → (table_of s.tables l).stamp ≤ s.clock

-- number and stamp of a transaction that began
pub record Given (P : Parts) (ts : List Table) (l n t : ℕ) : Type 0 where
  pub level : l < P.order.levels
  pub number_low : 1 ≤ n
  pub number : n ≤ (table_of ts l).number
  pub stamp_low : 1 ≤ t
  pub stamp : t ≤ (table_of ts l).stamp

-- the tables hold transactions that began and have not ended
pub record Times (P : Parts) (h : List Event) (ts : List Table) : Type 0 where
  pub given : (l n t : ℕ) → Began h l n t → Given P ts l n t
  pub once : (l n t r : ℕ) → Began h l n t → Began h l n r → t ≡ r
  pub rising : (l n t k r : ℕ) → Began h l n t → Began h l k r → n < k → t ≤ r
  pub active : (l n t : ℕ) → ActiveIn ts l n t → Began h l n t
  pub distinct : (l : ℕ) → Distinct (table_of ts l).places
  pub over : (l n t : ℕ) → Ended h l n → ActiveIn ts l n t → ⊥
  pub ended_began : (l n : ℕ) → Ended h l n → (t : ℕ) × Began h l n t

-- writes are of begun transactions, in items of their level
pub record Stores (v : State) (h : List Event) : Type 0 where
  pub began : (l n x b : ℕ) → In (stored l n x b) h → (t : ℕ) × Began h l n t
  pub own : (l n x b : ℕ) → In (stored l n x b) h → level_of v.items x ≡ l
  pub known : (l n x b : ℕ) → In (stored l n x b) h → x < length v.items

-- a version of a transaction of level a
pub record Owned (h : List Event) (ts : List Table) (a x : ℕ) (w : Version) : Type 0 where
  pub start : Began h a w.number w.stamp
  pub value : last_stored h a w.number x ≡ Some w.value
  pub state : ((w.state ≡ Pending) × ActiveIn ts a w.number w.stamp) ⊎ ((w.state ≡ Committed) × Ended h a w.number)

-- a first value
pub record Original (v : State) (x : ℕ) (w : Version) : Type 0 where
  pub number : w.number ≡ 0
  pub stamp : w.stamp ≡ 0
  pub state : w.state ≡ Committed
  pub value : w.value ≡ newest v.items x

-- the row of x, whose level is a
pub record RowKept (v : State) (h : List Event) (ts : List Table) (a x : ℕ) (row : List Version) : Type 0 where
  pub rule : keeps_rule row ≡ true
  pub version : (w : Version) → In w row → Original v x w ⊎ Owned h ts a x w
  pub active_writer : (n t b : ℕ) → last_stored h a n x ≡ Some b → ActiveIn ts a n t → (w : Version) × In w row × (w.number ≡ n)
  pub ended_writer : (n b : ℕ) → last_stored h a n x ≡ Some b → Ended h a n
      → ((w : Version) × In w row × (w.number ≡ n)) ⊎ ((w : Version) → In w row → n < w.number)

abbrev pub Rows : State → List Event → State → Type 0
Rows v h s = (x : ℕ) → x < length v.items → RowKept v h s.tables (level_of v.items x) x (row_of s.items x)

-- a writer of x that is active or committed
pub record Live (h : List Event) (ts : List Table) (a x j r c : ℕ) : Type 0 where
  pub start : Began h a j r
  pub live : ActiveIn ts a j r ⊎ Ended h a j
  pub stores : last_stored h a j x ≡ Some c

-- a version that reader n of the same level chose stays the one before it: nothing goes in between, and its mark tells of the reader
pub record Guard (row : List Version) (n k : ℕ) : Type 0 where
  pub between : (w : Version) → In w row → w.number < n → w.number ≤ k
  pub mark : (w : Version) → In w row → w.number ≡ k → n ≤ w.mark

-- what a reader of level l, number n and stamp t saw of version k of x, whose level is a
pub record OutsideKept (P : Parts) (v : State) (h : List Event) (s : State) (a l n t x b : ℕ) : Type 0 where
  pub k : ℕ
  pub source : ((k ≡ 0) × (b ≡ newest v.items x)) ⊎ ((r : ℕ) × Writer h a x k r b × Precedes l n t a k r)
  pub quiet : (j r c : ℕ) → Live h s.tables a x j r c → Precedes l n t a j r → j ≤ k
  pub guard : a ≡ l → Guard (row_of s.items x) n k
  pub wall : (a ≡ l → ⊥) → t ≤ floor P s a

pub record ReadKept (P : Parts) (v : State) (h : List Event) (s : State) (g : List Event) (l n x b : ℕ) : Type 0 where
  pub known : x < length v.items
  pub stamp : ℕ
  pub start : Began h l n stamp
  pub lower : (level_of v.items x ≡ l) ⊎ (strictly_dominates P.order l (level_of v.items x) ≡ true)
  pub right : (last_stored g l n x ≡ Some b) ⊎ ((last_stored g l n x ≡ None) × OutsideKept P v h s (level_of v.items x) l n stamp x b)

-- all reads of g, a part of the history
abbrev pub ReadsKept : Parts → State → List Event → State → List Event → Type 0
ReadsKept P v h s [] = Unit {0}
ReadsKept P v h s (idle ∷ g) = ReadsKept P v h s g
ReadsKept P v h s (began l n t ∷ g) = ReadsKept P v h s g
ReadsKept P v h s (saw l n x b ∷ g) = ReadKept P v h s g l n x b × ReadsKept P v h s g
ReadsKept P v h s (stored l n x b ∷ g) = ReadsKept P v h s g
ReadsKept P v h s (ended l n ∷ g) = ReadsKept P v h s g

pub record Inv (P : Parts) (v : State) (h : List Event) (s : State) : Type 0 where
  pub frame : Frame v s
  pub times : Times P h s.tables
  pub stores : Stores v h
  pub rows : Rows v h s
  pub reads : ReadsKept P v h s h
