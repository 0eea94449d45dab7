-- Events that begin and end no transaction keep what is known of tables and rows. Assumes nothing.
use Rattle.std.proofs.Common.{◌≡◌, ℕ, ◌≤◌, ◌&&◌, eqb, List, ◌∷◌, Some, sym, refl, ◌∙◌, inl, inr, arith}
use Rattle.std.proofs.lemmas.Bool.{ne_eqb, and_right, cond-false}
use Rattle.shelves.specs.Items.{Item, row_of}
use Rattle.shelves.specs.declared.version.Version.{Version}
use Rattle.tables.specs.declared.table.Table.{Table}
use Rattle.rules.specs.Members.{In}
use Rattle.rules.specs.States.{Parts, State}
use Rattle.rules.specs.Watermarks.{floor}
use Rattle.rules.proofs.Advance.{Advance}
use Rattle.rules.proofs.History.{Event, idle, began, saw, stored, ended, last_stored, Began, Ended}
use Rattle.rules.proofs.Invariant.{Times, Stores, Owned, RowKept}
use Rattle.rules.proofs.Marks.{floor_is, floor_from, floor_below}

pub record Mild (e : Event) : Type 0 where
  pub no_begin : (l n t : ℕ) → e ≡ began l n t → ⊥
  pub no_end : (l n : ℕ) → e ≡ ended l n → ⊥

pub idle_mild : Mild idle
idle_mild = record {
  no_begin = λ l n t q. cc;
  no_end = λ l n q. cc;
}

pub saw_mild : (a k x b : ℕ) → Mild (saw a k x b)
saw_mild a k x b = record {
  no_begin = λ l n t q. cc;
  no_end = λ l n q. cc;
}

pub stored_mild : (a k x b : ℕ) → Mild (stored a k x b)
stored_mild a k x b = record {
  no_begin = λ l n t q. cc;
  no_end = λ l n q. cc;
}

pub began_back : (e : Event) (h : List Event) → Mild e → (l n t : ℕ) → Began (e ∷ h) l n t → Began h l n t
began_back e h m l n t (inl q) = absurd (m.no_begin l n t q)
began_back e h m l n t (inr i) = i

pub ended_back : (e : Event) (h : List Event) → Mild e → (l n : ℕ) → Ended (e ∷ h) l n → Ended h l n
ended_back e h m l n (inl q) = absurd (m.no_end l n q)
ended_back e h m l n (inr i) = i

-- no value stored by a transaction in x changes
abbrev pub SameStores : List Event → Event → ℕ → Type 0
SameStores h e x = (a n : ℕ) → last_stored (e ∷ h) a n x ≡ last_stored h a n x

-- a write of x leaves what was stored in other items
pub stored_elsewhere : (h : List Event) (l k x b y : ℕ) → (y ≡ x → ⊥) → SameStores h (stored l k x b) y
stored_elsewhere h l k x b y ne a n =
    cond-false (eqb l a && (eqb k n && eqb x y)) (Some b) (last_stored h a n y)
    (and_right (eqb l a) (eqb k n && eqb x y) (and_right (eqb k n) (eqb x y) (ne_eqb x y (λ e. ne (sym e)))))

pub times_mild : (P : Parts) (h : List Event) (ts : List Table) (e : Event) → Mild e → Times P h ts → Times P (e ∷ h) ts
times_mild P h ts e m t =
    let back = began_back e h m in
    record {
      given = λ l n r i. t.given l n r (back l n r i);
      once = λ l n r q i j. t.once l n r q (back l n r i) (back l n q j);
      rising = λ l n r k q i j. t.rising l n r k q (back l n r i) (back l k q j);
      active = λ l n r i. inr (t.active l n r i);
      distinct = t.distinct;
      over = λ l n r i. t.over l n r (ended_back e h m l n i);
      ended_began = λ l n i. let f = t.ended_began l n (ended_back e h m l n i) in (f.0, inr f.1);
    }

-- events that store nothing
pub stores_mild : (v : State) (h : List Event) (e : Event) → ((l n x b : ℕ) → e ≡ stored l n x b → ⊥) → Stores v h → Stores v (e ∷ h)
stores_mild v h e ne s =
    let back : (l n x b : ℕ) → In (stored l n x b) (e ∷ h) → In (stored l n x b) h =
    λ l n x b i. elim i [ inl q ↦ absurd (ne l n x b q) | inr j ↦ j ] in
    record {
      began = λ l n x b i. let f = s.began l n x b (back l n x b i) in (f.0, inr f.1);
      own = λ l n x b i. s.own l n x b (back l n x b i);
      known = λ l n x b i. s.known l n x b (back l n x b i);
    }

pub owned_mild : (h : List Event) (ts : List Table) (a x : ℕ) (e : Event) → SameStores h e x → (w : Version) → Owned h ts a x w → Owned (e ∷ h) ts a x w
owned_mild h ts a x e same w o = record {
  start = inr o.start;
  value = same a w.number ∙ o.value;
  state = elim o.state [ inl p ↦ inl p | inr c ↦ inr (c.0, inr c.1) ];
}

pub row_mild : (v : State) (h : List Event) (ts : List Table) (a x : ℕ) (row : List Version) (e : Event) → Mild e → SameStores h e x
    → RowKept v h ts a x row → RowKept v (e ∷ h) ts a x row
row_mild v h ts a x row e m same r = record {
  rule = r.rule;
  version = λ w i. elim (r.version w i) [ inl o ↦ inl o | inr o ↦ inr (owned_mild h ts a x e same w o) ];
  active_writer = λ n t b q i. r.active_writer n t b (sym (same a n) ∙ q) i;
  ended_writer = λ n b q i. r.ended_writer n b (sym (same a n) ∙ q) (ended_back e h m a n i);
}

-- the state with another clock and other items
abbrev pub moved : State → ℕ → List Item → State
moved s c its = record { sound = s.sound; clock = c; tables = s.tables; items = its }

pub floor_moved : (P : Parts) (s : State) (c : ℕ) (its : List Item) (a : ℕ) → s.clock ≤ c → floor P s a ≤ floor P (moved s c its) a
floor_moved P s c its a le =
    floor_from P (moved s c its) a (floor P s a) (omega (arith, (floor_is P s a).clock)) (λ b n t d i. floor_below P s a b n t d i)

-- rows whose versions keep their numbers, and whose marks do not fall
abbrev pub SameNumbers : List Version → List Version → Type 0
SameNumbers row next = (w : Version) → In w next → (u : Version) × In u row × (u.number ≡ w.number) × (u.mark ≤ w.mark)

pub advance_mild : (P : Parts) (h : List Event) (s : State) (a x : ℕ) (e : Event) → Mild e → SameStores h e x
    → (c : ℕ) (its : List Item) → s.clock ≤ c → SameNumbers (row_of s.items x) (row_of its x) → Advance P h s (e ∷ h) (moved s c its) a x
advance_mild P h s a x e m same c its le from = record {
  starts = λ l n t i. inr i;
  ends = λ l n i. inr i;
  stores = λ k b i q. same a k ∙ q;
  writers = λ j r d live. inl (
    d,
    record {
      start = began_back e h m a j r live.start;
      live = elim live.live [ inl i ↦ inl i | inr i ↦ inr (ended_back e h m a j i) ];
      stores = sym (same a j) ∙ live.stores;
    },
  );
  versions = λ w i. inl (from w i);
  floors = floor_moved P s c its a le;
}

pub same_numbers : (row : List Version) → SameNumbers row row
same_numbers row w i = (w, i, refl, omega arith)
