-- The bytes after an accepted edit are an image, with the items that the edit leaves. Assumes nothing.
use Rattle.std.specs.Prelude.{◌≡◌, ℕ, zero, suc, ◌+◌, ◌*◌, ◌<◌, ◌≤◌, true, List, [], ◌∷◌, ◌++◌, map, length, get_or, ◌≢◌, nat_lt, slice_index_or, slice_set, refl}
use Rattle.std.proofs.Common.{inl, inr, sym, ap, ap₂, subst, ◌∙◌, arith}
use Rattle.std.specs.List.{range_with_len, AllByRecursion}
use Rattle.std.proofs.lemmas.List.FromFn.{length-map-range_with_len, get_or-map-range_with_len, fill_by_all}
use Rattle.std.proofs.ByRecursion.{All-map, All-append, All-set, All-take, All-drop}
use Rattle.std.proofs.lemmas.List.{length-set, length-append, get_or-set_same, get_or-set_other, get_or_append_left, ext_get_or}
use Rattle.std.proofs.lemmas.Bool.{and_parts, cond-true, cond-false, lt-ltb, le-ltb, cases_lt, cases_eq, cases_order}
use Rattle.shelves.specs.Edits.{blank, fits, edited, accepts}
use Rattle.shelves.specs.Items.{item_after, items_with, items_after}
use Rattle.shelves.specs.Rows.{keeps_rule, RowRule}
use Rattle.shelves.specs.declared.edit.Edit.{Edit}
use Rattle.shelves.specs.declared.edit.Edit.TheVariants.{Put, Insert, Remove}
use Rattle.shelves.specs.declared.version.Version.{Version}
use Rattle.shelves.proofs.Ruled.{rule_decides}
use Rattle.image.specs.Decided.{EditFits}
use Rattle.fields.specs.Fields.{byte, field32, version_at}
use Rattle.image.specs.Layout.{item_count, whole, level_at, used_at, row_start, row_at, item_at, image_items, ItemFits, IsImage}
use Rattle.fields.specs.Written.{VersionFits, row_bytes, pasted}
use Rattle.image.specs.Writes.{freed, bytes_after}
use Rattle.image.specs.Counted.{nth_counted}
use Rattle.fields.proofs.Decoded.{same32, same_version, row_version, row_state, read_fits, blank_fits}
use Rattle.image.specs.Known.{few_used}
use Rattle.fields.proofs.Pasted.{length_pasted, before_pasted, in_pasted, behind_pasted, length_row_bytes}

-- lists that are made by number
same_counted : {X : Type 0} (f g : ℕ → X) (a n : ℕ) → ((j : ℕ) → j < a + n → f j ≡ g j) → map f (range_with_len a n) ≡ map g (range_with_len a n)
same_counted f g a zero h = refl
same_counted f g a (suc n) h = ap₂ (λ x xs. x ∷ xs) (h a (omega arith)) (same_counted f g (a + 1) n (λ j l. h j (omega arith)))

-- every version of an edited row fits its bytes
each_reads : (bs : List ℕ) (start : ℕ) (ks : List ℕ) → ((k : ℕ) → byte bs k < 256) → AllByRecursion (λ j. VersionFits (version_at bs (start + 24 * j))) ks
each_reads bs start [] h = tt
each_reads bs start (k ∷ ks) h = (read_fits bs (start + 24 * k) h, each_reads bs start ks h)

edited_fits : (e : Edit) (vs : List Version) → EditFits e → AllByRecursion VersionFits vs → AllByRecursion VersionFits (edited e vs)
edited_fits (Put p v) vs f a = All-set VersionFits vs p v f a
edited_fits (Insert p v) vs f a = All-append VersionFits _ _ (All-take VersionFits p vs a) (f, All-drop VersionFits p vs a)
edited_fits (Remove p) vs f a = All-append VersionFits _ _ (All-take VersionFits p vs a) (All-drop VersionFits (suc p) vs a)

-- at most one place is freed
freed_fits : (n m : ℕ) → n ≤ 8 → m ≤ 8 → (m + length (freed n m) ≤ 8) × AllByRecursion VersionFits (freed n m)
freed_fits n m old new =
    elim (cases_lt m n) [
      | inl l ↦
          let e = cond-true (nat_lt m n) (blank ∷ []) [] (lt-ltb m n l) in
          subst (λ vs. (m + length vs ≤ 8) × AllByRecursion VersionFits vs) (sym e) (omega arith, (blank_fits, tt))
      | inr l ↦
          let e = cond-false (nat_lt m n) (blank ∷ []) [] (le-ltb m n l) in
          subst (λ vs. (m + length vs ≤ 8) × AllByRecursion VersionFits vs) (sym e) (omega arith, tt)
    ]

-- the row that an edit leaves, and what is written of it
abbrev new_row : List ℕ → ℕ → Edit → List Version
new_row bs i e = edited e (item_at bs i).row

abbrev written : List ℕ → ℕ → Edit → List ℕ
written bs i e = row_bytes (new_row bs i e ++ freed (used_at bs i) (length (new_row bs i e)))

module _ (bs : List ℕ) (i : ℕ) (e : Edit) (image : IsImage bs) (known : i < item_count bs) (accepted : accepts e (item_at bs i).row ≡ true)
    (fit : EditFits e) (small : (k : ℕ) → byte bs k < 256) where
  new_rule : RowRule (new_row bs i e)
  new_rule = (rule_decides (new_row bs i e)).0 (and_parts (fits e (length (item_at bs i).row)) (keeps_rule (new_row bs i e)) accepted).1

  all_fit : AllByRecursion VersionFits (new_row bs i e ++ freed (used_at bs i) (length (new_row bs i e)))
  all_fit =
      All-append VersionFits (new_row bs i e) (freed (used_at bs i) (length (new_row bs i e)))
      (edited_fits e (item_at bs i).row fit
      (All-map VersionFits (λ j. version_at bs (row_start bs i + 24 * j)) (range_with_len 0 (used_at bs i)) (each_reads bs (row_start bs i) (range_with_len 0 (used_at bs i)) small)))
      (freed_fits (used_at bs i) (length (new_row bs i e)) (few_used bs i image known) new_rule.few).1

  long_written : length (written bs i e) ≡ 24 * length (new_row bs i e ++ freed (used_at bs i) (length (new_row bs i e)))
  long_written = length_row_bytes (new_row bs i e ++ freed (used_at bs i) (length (new_row bs i e)))

  few_written : length (written bs i e) ≤ 192
  few_written =
      omega (
        arith,
        long_written,
        length-append (new_row bs i e) (freed (used_at bs i) (length (new_row bs i e))),
        (freed_fits (used_at bs i) (length (new_row bs i e)) (few_used bs i image known) new_rule.few).0,
      )

  room : row_start bs i + 192 ≤ length bs
  room = omega (arith, image.length_exact, known)

  fits_room : row_start bs i + length (written bs i e) ≤ length bs
  fits_room = omega (arith, room, few_written)

  -- byte by byte
  low_byte : (k : ℕ) → (k ≢ 9 + 2 * i) → k < row_start bs i → byte (bytes_after bs i e) k ≡ byte bs k
  low_byte k ne l =
      get_or-set_other (pasted bs (row_start bs i) (written bs i e)) (9 + 2 * i) k (length (new_row bs i e)) 0 ne
      ∙ before_pasted bs (row_start bs i) (written bs i e) fits_room k l

  high_byte : (k : ℕ) → row_start bs i + 192 ≤ k → byte (bytes_after bs i e) k ≡ byte bs k
  high_byte k l =
      get_or-set_other (pasted bs (row_start bs i) (written bs i e)) (9 + 2 * i) k (length (new_row bs i e)) 0 (λ q. omega arith)
      ∙ behind_pasted bs (row_start bs i) (written bs i e) fits_room k (omega (arith, few_written))

  row_byte : (q : ℕ) → q < length (written bs i e) → byte (bytes_after bs i e) (row_start bs i + q) ≡ byte (written bs i e) q
  row_byte q l =
      get_or-set_other (pasted bs (row_start bs i) (written bs i e)) (9 + 2 * i) (row_start bs i + q) (length (new_row bs i e)) 0 (λ z. omega arith)
      ∙ in_pasted bs (row_start bs i) (written bs i e) fits_room q l

  new_used : used_at (bytes_after bs i e) i ≡ length (new_row bs i e)
  new_used =
      get_or-set_same (pasted bs (row_start bs i) (written bs i e)) (9 + 2 * i) (length (new_row bs i e)) 0
      (omega (arith, length_pasted bs (row_start bs i) (written bs i e) fits_room, room))

  pub same_length : length (bytes_after bs i e) ≡ length bs
  same_length =
      length-set (pasted bs (row_start bs i) (written bs i e)) (9 + 2 * i) (length (new_row bs i e))
      ∙ length_pasted bs (row_start bs i) (written bs i e) fits_room

  same_count : item_count (bytes_after bs i e) ≡ item_count bs
  same_count = same32 (bytes_after bs i e) bs 0 0 (λ k l. low_byte (0 + k) (λ q. omega arith) (omega arith))

  same_field : field32 (bytes_after bs i e) 4 ≡ field32 bs 4
  same_field = same32 (bytes_after bs i e) bs 4 4 (λ k l. low_byte (4 + k) (λ q. omega arith) (omega arith))

  same_level : (k : ℕ) → k < item_count bs → level_at (bytes_after bs i e) k ≡ level_at bs k
  same_level k h = low_byte (8 + 2 * k) (λ q. omega arith) (omega arith)

  same_start : (k : ℕ) → row_start (bytes_after bs i e) k ≡ row_start bs k
  same_start k = ap (λ n. 8 + 2 * n + 192 * k) same_count

  -- the rows of the other items
  module _ (k : ℕ) (h : k < item_count bs) (other : k ≡ i → ⊥) where
    other_used : used_at (bytes_after bs i e) k ≡ used_at bs k
    other_used = low_byte (9 + 2 * k) (λ q. omega (arith, other)) (omega arith)

    other_byte : (q : ℕ) → q < 192 → byte (bytes_after bs i e) (row_start bs k + q) ≡ byte bs (row_start bs k + q)
    other_byte q l =
        elim (cases_order k i) [
          | inl same ↦ absurd (other same)
          | inr d ↦ elim d [
            | inl less ↦ low_byte (row_start bs k + q) (λ z. omega arith) (omega arith)
            | inr more ↦ high_byte (row_start bs k + q) (omega arith)
          ]
        ]

    other_version : (j : ℕ) → j < 8 → version_at (bytes_after bs i e) (row_start bs k + 24 * j) ≡ version_at bs (row_start bs k + 24 * j)
    other_version j l =
        same_version (bytes_after bs i e) bs (row_start bs k + 24 * j) (row_start bs k + 24 * j)
        (λ m n.
        let x : row_start bs k + 24 * j + m ≡ row_start bs k + (24 * j + m) = omega arith in
        ap (byte (bytes_after bs i e)) x ∙ other_byte (24 * j + m) (omega arith) ∙ ap (byte bs) (sym x))

    other_state : (j : ℕ) → j < 8 → field32 (bytes_after bs i e) (row_start bs k + 24 * j + 12) ≡ field32 bs (row_start bs k + 24 * j + 12)
    other_state j l =
        same32 (bytes_after bs i e) bs (row_start bs k + 24 * j + 12) (row_start bs k + 24 * j + 12)
        (λ m n.
        let x : row_start bs k + 24 * j + 12 + m ≡ row_start bs k + (24 * j + 12 + m) = omega arith in
        ap (byte (bytes_after bs i e)) x ∙ other_byte (24 * j + 12 + m) (omega arith) ∙ ap (byte bs) (sym x))

    other_row : (item_at (bytes_after bs i e) k).row ≡ (item_at bs k).row
    other_row =
        ap₂ (λ s n. row_at (bytes_after bs i e) s n) (same_start k) other_used
        ∙ same_counted (λ j. version_at (bytes_after bs i e) (row_start bs k + 24 * j)) (λ j. version_at bs (row_start bs k + 24 * j)) 0 (used_at bs k)
        (λ j l. other_version j (omega (arith, few_used bs k image h)))

    other_item : item_at (bytes_after bs i e) k ≡ item_at bs k
    other_item = ap₂ (λ l r. record { level = l; row = r }) (same_level k h) other_row

    other_fits : ItemFits (bytes_after bs i e) k
    other_fits =
        let f = image.items k h in
        record {
          level = omega (arith, same_level k h, f.level);
          states = λ j l.
              let m : j < used_at bs k = omega (arith, other_used) in
              let s : field32 (bytes_after bs i e) (row_start (bytes_after bs i e) k + 24 * j + 12) ≡ field32 bs (row_start bs k + 24 * j + 12) =
              ap (λ n. field32 (bytes_after bs i e) (n + 24 * j + 12)) (same_start k) ∙ other_state j (omega (arith, few_used bs k image h)) in
              omega (arith, s, f.states j m);
          rule = subst RowRule (sym other_row) f.rule;
        }

  -- the row of the edited item
  module _ (j : ℕ) (h : j < length (new_row bs i e)) where
    inside : 24 * j + 24 ≤ length (written bs i e)
    inside = omega (arith, long_written, length-append (new_row bs i e) (freed (used_at bs i) (length (new_row bs i e))))

    own_version : version_at (bytes_after bs i e) (row_start bs i + 24 * j) ≡ slice_index_or (new_row bs i e) j blank
    own_version =
        same_version (bytes_after bs i e) (written bs i e) (row_start bs i + 24 * j) (24 * j)
        (λ m n.
        let x : row_start bs i + 24 * j + m ≡ row_start bs i + (24 * j + m) = omega arith in
        ap (byte (bytes_after bs i e)) x ∙ row_byte (24 * j + m) (omega (arith, inside)))
        ∙ row_version (new_row bs i e ++ freed (used_at bs i) (length (new_row bs i e))) all_fit j blank
        (omega (arith, length-append (new_row bs i e) (freed (used_at bs i) (length (new_row bs i e)))))
        ∙ get_or_append_left (new_row bs i e) (freed (used_at bs i) (length (new_row bs i e))) blank j h

    own_state : field32 (bytes_after bs i e) (row_start bs i + 24 * j + 12) ≤ 1
    own_state =
        let same : field32 (bytes_after bs i e) (row_start bs i + 24 * j + 12) ≡ field32 (written bs i e) (24 * j + 12) =
        same32 (bytes_after bs i e) (written bs i e) (row_start bs i + 24 * j + 12) (24 * j + 12)
        (λ m n.
        let x : row_start bs i + 24 * j + 12 + m ≡ row_start bs i + (24 * j + 12 + m) = omega arith in
        ap (byte (bytes_after bs i e)) x ∙ row_byte (24 * j + 12 + m) (omega (arith, inside))) in
        omega (
          arith,
          same,
          row_state (new_row bs i e ++ freed (used_at bs i) (length (new_row bs i e))) j
              (omega (arith, length-append (new_row bs i e) (freed (used_at bs i) (length (new_row bs i e))))),
        )

  own_row : (item_at (bytes_after bs i e) i).row ≡ new_row bs i e
  own_row =
      ap₂ (λ s n. row_at (bytes_after bs i e) s n) (same_start i) new_used
      ∙ sym (fill_by_all (λ j. version_at (bytes_after bs i e) (row_start bs i + 24 * j)) (new_row bs i e) (length (new_row bs i e)) blank refl
      (λ k h. sym (own_version k h)))

  own_fits : ItemFits (bytes_after bs i e) i
  own_fits = record {
    level = omega (arith, same_level i known, (image.items i known).level);
    states = λ j l.
        let m : j < length (new_row bs i e) = omega (arith, new_used) in
        let s : field32 (bytes_after bs i e) (row_start (bytes_after bs i e) i + 24 * j + 12) ≡ field32 (bytes_after bs i e) (row_start bs i + 24 * j + 12) =
        ap (λ n. field32 (bytes_after bs i e) (n + 24 * j + 12)) (same_start i) in
        omega (arith, s, own_state j m);
    rule = subst RowRule (sym own_row) new_rule;
  }

  pub after_image : IsImage (bytes_after bs i e)
  after_image = record {
    some = omega (arith, same_count, image.some);
    few = omega (arith, same_count, image.few);
    length_field = same_field ∙ image.length_field ∙ ap whole (sym same_count);
    length_exact = same_length ∙ image.length_exact ∙ ap whole (sym same_count);
    items = λ k h.
        let l : k < item_count bs = omega (arith, same_count) in
        elim (cases_eq k i) [ inl same ↦ subst (ItemFits (bytes_after bs i e)) (sym same) own_fits | inr other ↦ other_fits k l other ];
  }

  own_item : item_at (bytes_after bs i e) i ≡ item_after e (item_at bs i)
  own_item =
      ap₂ (λ l r. record { level = l; row = r }) (same_level i known)
      (own_row ∙ sym (cond-true (accepts e (item_at bs i).row) (edited e (item_at bs i).row) (item_at bs i).row accepted))

  pub after_items : image_items (bytes_after bs i e) ≡ items_after (image_items bs) i e
  after_items =
      let old : length (image_items bs) ≡ item_count bs = length-map-range_with_len (item_at bs) 0 (item_count bs) in
      let new : length (image_items (bytes_after bs i e)) ≡ item_count bs = length-map-range_with_len (item_at (bytes_after bs i e)) 0 (item_count (bytes_after bs i e)) ∙ same_count in
      ext_get_or (item_at bs 0) (image_items (bytes_after bs i e)) (slice_set (image_items bs) i (item_after e (item_at bs i)))
      (new ∙ sym (length-set (image_items bs) i (item_after e (item_at bs i)) ∙ old))
      (λ k l.
      let m : k < item_count bs = omega (arith, new) in
      get_or-map-range_with_len (item_at (bytes_after bs i e)) 0 (item_count (bytes_after bs i e)) k k (item_at bs 0) (omega (arith, same_count)) (omega arith)
      ∙ elim (cases_eq k i) [
        | inl same ↦
            ap (item_at (bytes_after bs i e)) same ∙ own_item
            ∙ sym (ap (λ n. get_or (slice_set (image_items bs) i (item_after e (item_at bs i))) n (item_at bs 0)) same
            ∙ get_or-set_same (image_items bs) i (item_after e (item_at bs i)) (item_at bs 0) (omega (arith, old)))
        | inr other ↦
            other_item k m other
            ∙ sym (get_or-set_other (image_items bs) i k (item_after e (item_at bs i)) (item_at bs 0) other
            ∙ get_or-map-range_with_len (item_at bs) 0 (item_count bs) k k (item_at bs 0) m (omega arith))
      ])
      ∙ sym (ap (items_with (image_items bs) i e) (nth_counted (item_at bs) (item_count bs) i known))
