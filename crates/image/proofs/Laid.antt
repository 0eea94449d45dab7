-- Bytes that were laid out are an image of exactly the items. Assumes nothing.
use Rattle.std.proofs.Common.{◌≡◌, ℕ, zero, suc, ◌+◌, ◌-◌, ◌*◌, ◌<◌, ◌≤◌, true, List, [], ◌∷◌, ◌++◌, map, length, get_or, replicate, is_ok, is_err, Some, None, Ok, Err, Decides, Option, Result, sym, refl, ap, ◌∙◌, subst, ap₂, arith}
use Rattle.std.specs.List.{range_with_len, flat_map, AllByRecursion}
use Rattle.std.proofs.lemmas.List.FromFn.{fill_by_all}
use Rattle.std.proofs.ByRecursion.{All-get_or, All-append}
use Rattle.std.proofs.lemmas.List.{get_or_append_left, get_or-append_right}
use Rattle.std.proofs.lemmas.Bool.{false≢true}
use Rattle.shelves.specs.Edits.{blank}
use Rattle.shelves.specs.Items.{Item}
use Rattle.shelves.specs.Rows.{RowRule}
use Rattle.shelves.specs.declared.version.Version.{Version}
use Rattle.image.specs.declared.layout.LayoutFault.{LayoutFault}
use Rattle.image.specs.Laid.{filled, entry_bytes, places_bytes, head_bytes, laid_out, rows_fault, Fitting, laid_answer, laid_after, LaidOut}
use Rattle.fields.specs.Fields.{byte, field32, version_at}
use Rattle.image.specs.Layout.{item_count, whole, level_at, used_at, row_start, row_at, item_at, image_items, ItemFits, IsImage}
use Rattle.fields.specs.Written.{VersionFits}
use Rattle.image.specs.Writes.{RowFits}
use Rattle.fields.proofs.Decoded.{blank_fits}
use Rattle.fields.proofs.Decoded.{same32, same_version, row_version, row_state, read_back}
use Rattle.image.proofs.Fits.{rows_parts, short_rows, answer_exact}
use Rattle.image.proofs.Laying.{Short, length_filled, length_places, length_entries, length_laid}

blanks_fit : (n : ℕ) → AllByRecursion VersionFits (replicate n blank)
blanks_fit zero = tt
blanks_fit (suc n) = (blank_fits, blanks_fit n)

-- level and number of versions of an item, byte by byte
entry_level : (items : List Item) (rest : List ℕ) (i : ℕ) (d : Item) → i < length items → byte (flat_map entry_bytes items ++ rest) (2 * i) ≡ (get_or items i d).level
entry_level [] rest i d h = absurd (omega arith)
entry_level (it ∷ its) rest zero d h = refl
entry_level (it ∷ its) rest (suc i) d h =
    let e : 2 * suc i ≡ suc (suc (2 * i)) = omega arith in
    ap (byte (flat_map entry_bytes (it ∷ its) ++ rest)) e ∙ entry_level its rest i d (omega arith)

entry_number : (items : List Item) (rest : List ℕ) (i : ℕ) (d : Item) → i < length items → byte (flat_map entry_bytes items ++ rest) (2 * i + 1) ≡ length (get_or items i d).row
entry_number [] rest i d h = absurd (omega arith)
entry_number (it ∷ its) rest zero d h = refl
entry_number (it ∷ its) rest (suc i) d h =
    let e : 2 * suc i + 1 ≡ suc (suc (2 * i + 1)) = omega arith in
    ap (byte (flat_map entry_bytes (it ∷ its) ++ rest)) e ∙ entry_number its rest i d (omega arith)

-- its places
place_bytes : (items : List Item) → AllByRecursion Short items → (i q : ℕ) (d : Item) → i < length items → q < 192
    → byte (flat_map places_bytes items) (192 * i + q) ≡ byte (places_bytes (get_or items i d)) q
place_bytes [] few i q d h l = absurd (omega arith)
place_bytes (it ∷ its) few zero q d h l =
    let e : 192 * zero + q ≡ q = omega arith in
    ap (byte (flat_map places_bytes (it ∷ its))) e
    ∙ get_or_append_left (places_bytes it) (flat_map places_bytes its) 0 q (omega (arith, length_places it few.0))
place_bytes (it ∷ its) few (suc i) q d h l =
    let e : 192 * suc i + q - 192 ≡ 192 * i + q = omega arith in
    get_or-append_right (places_bytes it) (flat_map places_bytes its) 192 (192 * suc i + q) 0 (length_places it few.0) (omega arith)
    ∙ ap (byte (flat_map places_bytes its)) e ∙ place_bytes its few.1 i q d (omega arith) l

no_item : Item
no_item = record { level = 0; row = [] }

module _ (items : List Item) (n : ℕ) (fit : Fitting items n) (fits : AllByRecursion RowFits items) where
  few : AllByRecursion Short items
  few = short_rows items fit.rows

  count : item_count (laid_out items) ≡ length items
  count =
      read_back (laid_out items) 0 (length items) record { d0 = refl; d1 = refl; d2 = refl; d3 = refl } (omega (arith, fit.few))

  length_field : field32 (laid_out items) 4 ≡ whole (length items)
  length_field =
      read_back (laid_out items) 4 (whole (length items)) record { d0 = refl; d1 = refl; d2 = refl; d3 = refl } (omega (arith, fit.few))

  behind_head : (q : ℕ) → byte (laid_out items) (8 + q) ≡ byte (flat_map entry_bytes items ++ flat_map places_bytes items) q
  behind_head q =
      let e : 8 + q - 8 ≡ q = omega arith in
      get_or-append_right (head_bytes (length items)) (flat_map entry_bytes items ++ flat_map places_bytes items) 8 (8 + q) 0 refl (omega arith)
      ∙ ap (byte (flat_map entry_bytes items ++ flat_map places_bytes items)) e

  start_is : (i : ℕ) → row_start (laid_out items) i ≡ 8 + 2 * length items + 192 * i
  start_is i = ap (λ k. 8 + 2 * k + 192 * i) count

  module _ (i : ℕ) (d : Item) (h : i < length items) where
    level_is : level_at (laid_out items) i ≡ (get_or items i d).level
    level_is = behind_head (2 * i) ∙ entry_level items (flat_map places_bytes items) i d h

    used_is : used_at (laid_out items) i ≡ length (get_or items i d).row
    used_is =
        let e : 9 + 2 * i ≡ 8 + (2 * i + 1) = omega arith in
        ap (byte (laid_out items)) e ∙ behind_head (2 * i + 1) ∙ entry_number items (flat_map places_bytes items) i d h

    place_byte : (q : ℕ) → q < 192 → byte (laid_out items) (8 + 2 * length items + 192 * i + q) ≡ byte (places_bytes (get_or items i d)) q
    place_byte q l =
        let e : 8 + 2 * length items + 192 * i + q ≡ 8 + (2 * length items + (192 * i + q)) = omega arith in
        let f : 2 * length items + (192 * i + q) - 2 * length items ≡ 192 * i + q = omega arith in
        ap (byte (laid_out items)) e ∙ behind_head (2 * length items + (192 * i + q))
        ∙ get_or-append_right (flat_map entry_bytes items) (flat_map places_bytes items) (2 * length items) (2 * length items + (192 * i + q)) 0 (length_entries items) (omega arith)
        ∙ ap (byte (flat_map places_bytes items)) f ∙ place_bytes items few i q d h l

    short : length (get_or items i d).row ≤ 8
    short = All-get_or Short items i d h few

    version_is : (j : ℕ) → j < length (get_or items i d).row
        → version_at (laid_out items) (8 + 2 * length items + 192 * i + 24 * j) ≡ get_or (get_or items i d).row j blank
    version_is j l =
        let vs : List Version = (get_or items i d).row in
        same_version (laid_out items) (places_bytes (get_or items i d)) (8 + 2 * length items + 192 * i + 24 * j) (24 * j)
        (λ m o.
        let x : 8 + 2 * length items + 192 * i + 24 * j + m ≡ 8 + 2 * length items + 192 * i + (24 * j + m) = omega arith in
        ap (byte (laid_out items)) x ∙ place_byte (24 * j + m) (omega (arith, short)))
        ∙ row_version (filled vs) (All-append VersionFits vs (replicate (8 - length vs) blank) (All-get_or RowFits items i d h fits) (blanks_fit (8 - length vs))) j blank
        (omega (arith, length_filled (get_or items i d).row short, short))
        ∙ get_or_append_left vs (replicate (8 - length vs) blank) blank j l

    state_is : (j : ℕ) → j < length (get_or items i d).row → field32 (laid_out items) (8 + 2 * length items + 192 * i + 24 * j + 12) ≤ 1
    state_is j l =
        let same : field32 (laid_out items) (8 + 2 * length items + 192 * i + 24 * j + 12) ≡ field32 (places_bytes (get_or items i d)) (24 * j + 12) =
        same32 (laid_out items) (places_bytes (get_or items i d)) (8 + 2 * length items + 192 * i + 24 * j + 12) (24 * j + 12)
        (λ m o.
        let x : 8 + 2 * length items + 192 * i + 24 * j + 12 + m ≡ 8 + 2 * length items + 192 * i + (24 * j + 12 + m) = omega arith in
        ap (byte (laid_out items)) x ∙ place_byte (24 * j + 12 + m) (omega (arith, short))) in
        omega (arith, same, row_state (filled (get_or items i d).row) j (omega (arith, length_filled (get_or items i d).row short, short)))

    row_is : row_at (laid_out items) (row_start (laid_out items) i) (used_at (laid_out items) i) ≡ (get_or items i d).row
    row_is =
        ap₂ (λ s c. row_at (laid_out items) s c) (start_is i) used_is
        ∙ sym (fill_by_all (λ j. version_at (laid_out items) (8 + 2 * length items + 192 * i + 24 * j)) (get_or items i d).row (length (get_or items i d).row) blank refl
        (λ j l. sym (version_is j l)))

    item_is : item_at (laid_out items) i ≡ get_or items i d
    item_is = ap₂ (λ l r. record { level = l; row = r }) level_is row_is

    item_fits : ItemFits (laid_out items) i
    item_fits = record {
      level = omega (arith, level_is, All-get_or (λ (it : Item). it.level ≤ 15) items i d h fit.levels);
      states = λ j l.
          let m : j < length (get_or items i d).row = omega (arith, used_is) in
          let s : field32 (laid_out items) (row_start (laid_out items) i + 24 * j + 12) ≡ field32 (laid_out items) (8 + 2 * length items + 192 * i + 24 * j + 12) =
          ap (λ k. field32 (laid_out items) (k + 24 * j + 12)) (start_is i) in
          omega (arith, s, state_is j m);
      rule = subst RowRule (sym row_is) (All-get_or (λ (it : Item). RowRule it.row) items i d h fit.rows);
    }

  laid_items : image_items (laid_out items) ≡ items
  laid_items =
      ap (λ k. map (item_at (laid_out items)) (range_with_len 0 k)) count
      ∙ sym (fill_by_all (item_at (laid_out items)) items (length items) no_item refl (λ i h. sym (item_is i no_item h)))

  laid_image : IsImage (laid_out items)
  laid_image = record {
    some = omega (arith, count, fit.some);
    few = omega (arith, count, fit.few);
    length_field = length_field ∙ ap whole (sym count);
    length_exact = length_laid items few ∙ ap whole (sym count);
    items = λ i h. item_fits i no_item (omega (arith, count));
  }

-- what laying out promises
refused_layout : (items : List Item) (before : List ℕ) (at : ℕ) → Some at ≡ rows_fault items (length before) → LaidOut items before (Err record { offset = at }) before
refused_layout items before at is = record {
  answer = ap laid_answer is;
  exact = subst (λ o. Decides (is_ok (laid_answer o)) (Fitting items (length before))) (sym is) (answer_exact items (length before));
  refused = λ _. refl;
  written = λ h. absurd (false≢true h);
  image = λ h. absurd (false≢true h);
  kept = λ h. absurd (false≢true h);
}

accepted_layout : (items : List Item) (before : List ℕ) → None ≡ rows_fault items (length before) → AllByRecursion RowFits items → LaidOut items before (Ok tt) (laid_out items)
accepted_layout items before is fits =
    let fit = rows_parts items (length before) (sym is) in
    record {
      answer = ap laid_answer is;
      exact = (λ _. fit, λ _. refl);
      refused = λ h. absurd (false≢true h);
      written = λ _. refl;
      image = λ _. laid_image items (length before) fit fits;
      kept = λ _. laid_items items (length before) fit fits;
    }

by_fault : (items : List Item) (before : List ℕ) (o : Option ℕ) → o ≡ rows_fault items (length before) → (is_ok (laid_answer o) ≡ true → AllByRecursion RowFits items)
    → LaidOut items before (laid_answer o) (laid_after o items before)
by_fault items before None is fits = accepted_layout items before is (fits refl)
by_fault items before (Some at) is fits = refused_layout items before at is

pub layout_promise : (items : List Item) (before after : List ℕ) (r : Result (Unit {0}) LayoutFault) → r ≡ laid_answer (rows_fault items (length before))
    → after ≡ laid_after (rows_fault items (length before)) items before → (is_ok r ≡ true → AllByRecursion RowFits items) → LaidOut items before r after
layout_promise items before after r is bytes fits =
    let promise = by_fault items before (rows_fault items (length before)) refl (λ h. fits (ap is_ok is ∙ h)) in
    subst (λ x. LaidOut items before x after) (sym is) (subst (λ xs. LaidOut items before (laid_answer (rows_fault items (length before))) xs) (sym bytes) promise)

-- a refusal leaves the bytes
left : (o : Option ℕ) (items : List Item) (before : List ℕ) → is_err (laid_answer o) ≡ true → before ≡ laid_after o items before
left None items before err = absurd (false≢true err)
left (Some at) items before err = refl

never_both : (r : Result (Unit {0}) LayoutFault) → is_err r ≡ true → is_ok r ≡ true → ⊥
never_both (Ok x) err ok = false≢true err
never_both (Err e) err ok = false≢true ok

pub refused_promise : (items : List Item) (before : List ℕ) (r : Result (Unit {0}) LayoutFault) → r ≡ laid_answer (rows_fault items (length before)) → is_err r ≡ true → LaidOut items before r before
refused_promise items before r is err =
    layout_promise items before before r is (left (rows_fault items (length before)) items before (sym (ap is_err is) ∙ err)) (λ ok. absurd (never_both r err ok))
