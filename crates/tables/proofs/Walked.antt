-- What the walks over a table's places find. Assumes nothing.
use Rattle.std.proofs.Common.{◌≡◌, ℕ, zero, suc, ◌+◌, ◌<◌, Bool, true, false, cond, eqb, List, [], ◌∷◌, length, get_or, Some, None, Option, sym, refl, ap, ◌∙◌, arith, add-zero, MatchOption}
use Rattle.std.specs.List.{position, position_from}
use Rattle.std.proofs.lemmas.Iterator.Adapters.{position_from-zero}
use Rattle.std.specs.Option.{option_map, option_or}
use Rattle.tables.specs.declared.place.Held.{Held}
use Rattle.tables.specs.declared.place.Place.{Place}
use Rattle.tables.specs.declared.place.Place.TheVariants.{Free, Open}
use Rattle.tables.specs.Places.{is_free, stamp_of}
use Rattle.tables.specs.Tables.{held_from, free_from}

free_from_position : (a : ℕ) (ps : List Place) → position_from is_free a ps ≡ free_from a ps
free_from_position a [] = refl
free_from_position a (Free ∷ ps) = refl
free_from_position a (Open k t ∷ ps) = free_from_position (a + 1) ps

pub free_by_position : (ps : List Place) → position is_free ps ≡ free_from 0 ps
free_by_position ps = position_from-zero is_free ps ∙ free_from_position 0 ps

-- a place is asked before those behind it
or_behind : (b : Bool) (t : ℕ) (f : ℕ → Held) (o : Option Held) → cond b (Some (f t)) o ≡ option_or (option_map f (cond b (Some t) None)) o
or_behind true t f o = refl
or_behind false t f o = refl

held_or : (n a : ℕ) (p : Place) (ps : List Place)
    → held_from n a (p ∷ ps) ≡ option_or (option_map (λ t. record { place = a; stamp = t }) (stamp_of n p)) (held_from n (a + 1) ps)
held_or n a Free ps = refl
held_or n a (Open k t) ps = or_behind (eqb k n) t (λ s. record { place = a; stamp = s }) (held_from n (a + 1) ps)

none_held : (n a : ℕ) (ps : List Place) → ((k : ℕ) → k < length ps → stamp_of n (get_or ps k Free) ≡ None) → held_from n a ps ≡ None
none_held n a [] none = refl
none_held n a (p ∷ ps) none =
    held_or n a p ps
    ∙ ap (λ o. option_or (option_map (λ t. record { place = a; stamp = t }) o) (held_from n (a + 1) ps)) (none 0 (omega arith))
    ∙ none_held n (a + 1) ps (λ k h. none (suc k) (omega arith))

first_held : (n a : ℕ) (ps : List Place) (i t : ℕ) → i < length ps → stamp_of n (get_or ps i Free) ≡ Some t
    → ((k : ℕ) → k < i → stamp_of n (get_or ps k Free) ≡ None) → held_from n a ps ≡ Some (record { place = a + i; stamp = t })
first_held n a [] i t lt e before = absurd (omega arith)
first_held n a (p ∷ ps) zero t lt e before =
    held_or n a p ps
    ∙ ap (λ o. option_or (option_map (λ s. record { place = a; stamp = s }) o) (held_from n (a + 1) ps)) e
    ∙ ap (λ m. Some (record { place = m; stamp = t })) (sym (add-zero a))
first_held n a (p ∷ ps) (suc i) t lt e before =
    let next : a + 1 + i ≡ a + suc i = omega arith in
    held_or n a p ps
    ∙ ap (λ o. option_or (option_map (λ s. record { place = a; stamp = s }) o) (held_from n (a + 1) ps)) (before 0 (omega arith))
    ∙ first_held n (a + 1) ps i t (omega arith) e (λ k h. before (suc k) (omega arith))
    ∙ ap (λ m. Some (record { place = m; stamp = t })) next

-- no place holds transaction n, or this one does and none before it
abbrev pub Finds : ℕ → List Place → Option Held → Type 0
Finds n ps r =
    MatchOption r ((k : ℕ) → k < length ps → stamp_of n (get_or ps k Free) ≡ None)
    (λ h. (h.place < length ps) × (stamp_of n (get_or ps h.place Free) ≡ Some h.stamp)
    × ((k : ℕ) → k < h.place → stamp_of n (get_or ps k Free) ≡ None))

pub held_if_found : (n : ℕ) (ps : List Place) (r : Option Held) → Finds n ps r → r ≡ held_from n 0 ps
held_if_found n ps None none = sym (none_held n 0 ps none)
held_if_found n ps (Some h) w =
    let at : 0 + h.place ≡ h.place = omega arith in
    ap (λ m. Some (record { place = m; stamp = h.stamp })) (sym at)
    ∙ sym (first_held n 0 ps h.place h.stamp w.0 w.1 w.2)
