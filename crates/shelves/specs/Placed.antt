-- An edit of eight places makes of the row at their front what it makes of a list. Assumes nothing.
use Rattle.std.specs.Prelude.{◌≡◌, ℕ, ◌+◌, ◌-◌, ◌<◌, ◌≤◌, true, false, cond, ◌&&◌, List, length, get_or, take, ◌==◌, nat_le, nat_lt, slice_index_or, slice_set}
use Rattle.std.proofs.Common.{inl, inr, sym, ap, ap₂, ◌∙◌, arith}
use Rattle.std.specs.List.{insert}
use Rattle.std.proofs.lemmas.List.FromFn.{length-map-range_with_len, get_or-map-range_with_len}
use Rattle.std.proofs.lemmas.List.Edits.{length-insert, get_or-insert_below, get_or-insert_at, get_or-insert_above, length-remove, get_or-remove_below, get_or-remove_above}
use Rattle.std.proofs.lemmas.List.{ext_get_or, length-set, length-take-le, get_or-take, get_or-set_same, get_or-set_other}
use Rattle.std.proofs.lemmas.Bool.{ltb-true, leb-true, lt-ltb, le-ltb, lt-leb, eq-eqb, ne_eqb, cases_lt, cases_eq, and_left, and_right, cond-true, cond-false}
use Rattle.shelves.specs.declared.edit.Edit.{Edit}
use Rattle.shelves.specs.declared.edit.Edit.TheVariants.{Put, Insert, Remove}
use Rattle.shelves.specs.declared.version.Version.{Version}
use Rattle.shelves.specs.Edits.{fits, count_after, edited, accepts, blank, place_after, places_after}
use Rattle.shelves.specs.Rows.{in_order, any_committed, keeps_rule}

pub length_edited : (e : Edit) (vs : List Version) → fits e (length vs) ≡ true → length (edited e vs) ≡ count_after e (length vs)
length_edited (Put p v) vs h = length-set vs p v
length_edited (Insert p v) vs h = length-insert vs p v (leb-true p (length vs) h)
length_edited (Remove p) vs h = let l = ltb-true p (length vs) h in omega (arith, length-remove vs p l)

-- place by place, as long as the row goes
module _ (vs : List Version) (n k : ℕ) (within : n ≤ length vs) (few : n ≤ 8) where
  front : k < n → slice_index_or (take n vs) k blank ≡ slice_index_or vs k blank
  front h = get_or-take n vs k blank h

  same_place : (e : Edit) → fits e n ≡ true → k < count_after e n → slice_index_or (edited e (take n vs)) k blank ≡ place_after e vs k
  same_place (Put p v) h l =
      let len : length (take n vs) ≡ n = length-take-le n vs within in
      let fit : p < n = ltb-true p n h in
      elim (cases_eq k p) [
        | inl e ↦
            ap (λ j. get_or (slice_set (take n vs) p v) j blank) e
            ∙ get_or-set_same (take n vs) p v blank (omega arith)
            ∙ sym (cond-true (k == p) v (slice_index_or vs k blank) (eq-eqb k p e))
        | inr e ↦
            get_or-set_other (take n vs) p k v blank e
            ∙ front l
            ∙ sym (cond-false (k == p) v (slice_index_or vs k blank) (ne_eqb k p e))
      ]
  same_place (Insert p v) h l =
      let len : length (take n vs) ≡ n = length-take-le n vs within in
      let fit : p ≤ length (take n vs) = omega (arith, leb-true p n h) in
      elim (cases_lt k p) [
        | inl b ↦
            get_or-insert_below (take n vs) p v blank k b fit
            ∙ front (omega arith)
            ∙ sym (cond-true (nat_lt k p) (slice_index_or vs k blank) (cond (k == p) v (slice_index_or vs (k - 1) blank)) (lt-ltb k p b))
        | inr b ↦
            elim (cases_eq k p) [
              | inl e ↦ ap (λ j. get_or (insert (take n vs) p v) j blank) e ∙ get_or-insert_at (take n vs) p v blank fit ∙ sym (cond-true (k == p) v (slice_index_or vs (k - 1) blank) (eq-eqb k p e))
              | inr e ↦
                  let back : k - 1 + 1 ≡ k = omega arith in
                  ap (λ j. get_or (insert (take n vs) p v) j blank) (sym back)
                  ∙ get_or-insert_above (take n vs) p v blank (k - 1) (omega arith) fit
                  ∙ get_or-take n vs (k - 1) blank (omega arith)
                  ∙ sym (cond-false (k == p) v (slice_index_or vs (k - 1) blank) (ne_eqb k p e))
            ]
            ∙ sym (cond-false (nat_lt k p) (slice_index_or vs k blank) (cond (k == p) v (slice_index_or vs (k - 1) blank)) (le-ltb k p b))
      ]
  same_place (Remove p) h l =
      let len : length (take n vs) ≡ n = length-take-le n vs within in
      let fit : p < length (take n vs) = omega (arith, ltb-true p n h) in
      elim (cases_lt k p) [
        | inl b ↦
            get_or-remove_below (take n vs) p blank k b fit
            ∙ front (omega arith)
            ∙ sym (cond-true (nat_lt k p) (slice_index_or vs k blank) (cond (nat_lt k 7) (slice_index_or vs (k + 1) blank) blank) (lt-ltb k p b))
        | inr b ↦
            get_or-remove_above (take n vs) p blank k b fit
            ∙ get_or-take n vs (k + 1) blank (omega arith)
            ∙ sym (cond-true (nat_lt k 7) (slice_index_or vs (k + 1) blank) blank (lt-ltb k 7 (omega arith)))
            ∙ sym (cond-false (nat_lt k p) (slice_index_or vs k blank) (cond (nat_lt k 7) (slice_index_or vs (k + 1) blank) blank) (le-ltb k p b))
      ]

-- the front of the eight places is the edited row
pub edited_front : (e : Edit) (vs : List Version) (n : ℕ) → length vs ≡ 8 → n ≤ 8 → fits e n ≡ true → count_after e n ≤ 8
    → take (count_after e n) (places_after e vs) ≡ edited e (take n vs)
edited_front e vs n full few h room =
    let len : length (take n vs) ≡ n = length-take-le n vs (omega arith) in
    let m : ℕ = count_after e n in
    let all : length (places_after e vs) ≡ 8 = length-map-range_with_len (place_after e vs) 0 8 in
    let here : length (take m (places_after e vs)) ≡ m = length-take-le m (places_after e vs) (omega arith) in
    let there : length (edited e (take n vs)) ≡ m = length_edited e (take n vs) (ap (fits e) len ∙ h) ∙ ap (count_after e) len in
    ext_get_or blank (take m (places_after e vs)) (edited e (take n vs)) (here ∙ sym there)
    (λ k l.
    let inside : k < m = omega arith in
    get_or-take m (places_after e vs) k blank inside
    ∙ get_or-map-range_with_len (place_after e vs) 0 8 k k blank (omega arith) (omega arith)
    ∙ sym (same_place vs n k (omega arith) few e h inside))

-- a ninth version breaks the rule
pub too_many : (e : Edit) (vs : List Version) → fits e (length vs) ≡ true → 8 < count_after e (length vs) → keeps_rule (edited e vs) ≡ false
too_many e vs h l =
    let len = length_edited e vs h in
    and_left (nat_le 1 (length (edited e vs)) && nat_le (length (edited e vs)) 8) (in_order (edited e vs) && any_committed (edited e vs))
    (and_right (nat_le 1 (length (edited e vs))) (nat_le (length (edited e vs)) 8) (lt-leb (length (edited e vs)) 8 (omega arith)))

-- whether the edit of the row is accepted, by the eight places
pub accepts_places : (e : Edit) (vs : List Version) (n : ℕ) → length vs ≡ 8 → n ≤ 8 → fits e n ≡ true → count_after e n ≤ 8
    → accepts e (take n vs) ≡ keeps_rule (take (count_after e n) (places_after e vs))
accepts_places e vs n full few h room =
    let len : length (take n vs) ≡ n = length-take-le n vs (omega arith) in
    ap₂ ◌&&◌ (ap (fits e) len ∙ h) (ap keeps_rule (sym (edited_front e vs n full few h room)))

pub accepts_no_ninth : (e : Edit) (vs : List Version) (n : ℕ) → length vs ≡ 8 → n ≤ 8 → fits e n ≡ true → 8 < count_after e n
    → accepts e (take n vs) ≡ false
accepts_no_ninth e vs n full few h l =
    let len : length (take n vs) ≡ n = length-take-le n vs (omega arith) in
    let more : 8 < count_after e (length (take n vs)) = rw len l in
    and_right (fits e (length (take n vs))) (keeps_rule (edited e (take n vs))) (too_many e (take n vs) (ap (fits e) len ∙ h) more)
