-- Bytes while items are laid out one after the other. Assumes nothing.
use Rattle.std.proofs.Common.{◌≡◌, ℕ, ◌+◌, ◌-◌, ◌*◌, ◌<◌, ◌≤◌, List, [], ◌∷◌, ◌++◌, length, get_or, take, replicate, sym, refl, ap, ◌∙◌, subst, ap₂, inl, inr, arith}
use Rattle.std.specs.List.{flat_map, AllByRecursion}
use Rattle.std.proofs.ByRecursion.{All-get_or, All-append, All-take}
use Rattle.std.proofs.lemmas.List.{append_assoc, append-nil, length-append, length-replicate, length-take-le, drop_all, flat_map_more, take_all, take_at, take_more, ext_get_or}
use Rattle.std.proofs.lemmas.Bool.{cases_lt}
use Rattle.shelves.specs.Edits.{blank}
use Rattle.shelves.specs.Items.{Item}
use Rattle.shelves.specs.declared.version.Version.{Version}
use Rattle.image.specs.Laid.{filled, entry_bytes, places_bytes, head_bytes, laid_out, item_written}
use Rattle.image.specs.Layout.{whole}
use Rattle.fields.specs.Written.{VersionFits, pasted}
use Rattle.image.specs.Writes.{RowFits}
use Rattle.fields.proofs.Pasted.{length_pasted, before_pasted, in_pasted, behind_pasted, then_pasted, none_pasted, length_row_bytes}

-- pastes that do not meet may change places
pasted_apart : (bs : List ℕ) (a : ℕ) (xs : List ℕ) (b : ℕ) (ys : List ℕ) → a + length xs ≤ b → b + length ys ≤ length bs
    → pasted (pasted bs b ys) a xs ≡ pasted (pasted bs a xs) b ys
pasted_apart bs a xs b ys low high =
    ext_get_or 0 (pasted (pasted bs b ys) a xs) (pasted (pasted bs a xs) b ys) (left_long ∙ sym right_long)
    (λ k _.
    elim (cases_lt k a) [
      | inl l ↦
          before_pasted (pasted bs b ys) a xs room_a k l ∙ before_pasted bs b ys high k (omega arith)
          ∙ sym (before_pasted (pasted bs a xs) b ys room_b k (omega arith) ∙ before_pasted bs a xs (omega arith) k l)
      | inr l ↦ elim (cases_lt k (a + length xs)) [
        | inl m ↦ in_xs k l m
        | inr m ↦ elim (cases_lt k b) [
          | inl n ↦
              behind_pasted (pasted bs b ys) a xs room_a k m ∙ before_pasted bs b ys high k n
              ∙ sym (before_pasted (pasted bs a xs) b ys room_b k n ∙ behind_pasted bs a xs (omega arith) k m)
          | inr n ↦ elim (cases_lt k (b + length ys)) [
            | inl o ↦ in_ys k n o
            | inr o ↦
                behind_pasted (pasted bs b ys) a xs room_a k m ∙ behind_pasted bs b ys high k o
                ∙ sym (behind_pasted (pasted bs a xs) b ys room_b k o ∙ behind_pasted bs a xs (omega arith) k m)
          ]
        ]
      ]
    ])
  where
    long_b : length (pasted bs b ys) ≡ length bs
    long_b = length_pasted bs b ys high

    long_a : length (pasted bs a xs) ≡ length bs
    long_a = length_pasted bs a xs (omega arith)

    room_a : a + length xs ≤ length (pasted bs b ys)
    room_a = omega (arith, long_b)

    room_b : b + length ys ≤ length (pasted bs a xs)
    room_b = omega (arith, long_a)

    left_long : length (pasted (pasted bs b ys) a xs) ≡ length bs
    left_long = length_pasted (pasted bs b ys) a xs room_a ∙ long_b

    right_long : length (pasted (pasted bs a xs) b ys) ≡ length bs
    right_long = length_pasted (pasted bs a xs) b ys room_b ∙ long_a

    in_xs : (k : ℕ) → a ≤ k → k < a + length xs → get_or (pasted (pasted bs b ys) a xs) k 0 ≡ get_or (pasted (pasted bs a xs) b ys) k 0
    in_xs k l m =
        let e : k ≡ a + (k - a) = omega arith in
        ap (λ j. get_or (pasted (pasted bs b ys) a xs) j 0) e ∙ in_pasted (pasted bs b ys) a xs room_a (k - a) (omega arith)
        ∙ sym (before_pasted (pasted bs a xs) b ys room_b k (omega arith)
        ∙ ap (λ j. get_or (pasted bs a xs) j 0) e ∙ in_pasted bs a xs (omega arith) (k - a) (omega arith))

    in_ys : (k : ℕ) → b ≤ k → k < b + length ys → get_or (pasted (pasted bs b ys) a xs) k 0 ≡ get_or (pasted (pasted bs a xs) b ys) k 0
    in_ys k l m =
        let e : k ≡ b + (k - b) = omega arith in
        behind_pasted (pasted bs b ys) a xs room_a k (omega arith)
        ∙ ap (λ j. get_or (pasted bs b ys) j 0) e ∙ in_pasted bs b ys high (k - b) (omega arith)
        ∙ sym (ap (λ j. get_or (pasted (pasted bs a xs) b ys) j 0) e ∙ in_pasted (pasted bs a xs) b ys room_b (k - b) (omega arith))

all_pasted : (bs ds : List ℕ) → length ds ≡ length bs → pasted bs 0 ds ≡ ds
all_pasted bs ds h = ap (λ ws. ds ++ ws) (drop_all (0 + length ds) bs (omega arith)) ∙ append-nil ds

-- a row that fits its eight places
abbrev pub Short : Item → Type 0
Short it = length it.row ≤ 8

pub length_filled : (vs : List Version) → length vs ≤ 8 → length (filled vs) ≡ 8
length_filled vs few = length-append vs (replicate (8 - length vs) blank) ∙ omega (arith, length-replicate (8 - length vs) blank)

pub length_places : (it : Item) → length it.row ≤ 8 → length (places_bytes it) ≡ 192
length_places it few = length_row_bytes (filled it.row) ∙ ap (λ n. 24 * n) (length_filled it.row few)

pub length_entries : (items : List Item) → length (flat_map entry_bytes items) ≡ 2 * length items
length_entries [] = refl
length_entries (it ∷ its) = omega (arith, length_entries its)

pub length_all_places : (items : List Item) → AllByRecursion Short items → length (flat_map places_bytes items) ≡ 192 * length items
length_all_places [] few = refl
length_all_places (it ∷ its) few =
    length-append (places_bytes it) (flat_map places_bytes its) ∙ omega (arith, length_places it few.0, length_all_places its few.1)

-- bytes with their head, after i of the items
abbrev pub laid_to : List ℕ → List Item → ℕ → List ℕ
laid_to hs items i =
    pasted (pasted hs 8 (flat_map entry_bytes (take i items))) (8 + 2 * length items) (flat_map places_bytes (take i items))

pub laid_none : (hs : List ℕ) (items : List Item) → hs ≡ laid_to hs items 0
laid_none hs items = sym (none_pasted (pasted hs 8 []) (8 + 2 * length items) ∙ none_pasted hs 8)

joined_take : (f : Item → List ℕ) (items : List Item) (i : ℕ) (d : Item) → i < length items → flat_map f (take i items) ++ f (get_or items i d) ≡ flat_map f (take (i + 1) items)
joined_take f items i d h = flat_map_more f [] (take i items) (get_or items i d) ∙ ap (flat_map f) (sym (take_more items i d h))

module _ (hs : List ℕ) (items : List Item) (exact : length hs ≡ whole (length items)) (few : AllByRecursion Short items) where
  entries_long : (i : ℕ) → i ≤ length items → length (flat_map entry_bytes (take i items)) ≡ 2 * i
  entries_long i h = length_entries (take i items) ∙ ap (λ n. 2 * n) (length-take-le i items h)

  places_long : (i : ℕ) → i ≤ length items → length (flat_map places_bytes (take i items)) ≡ 192 * i
  places_long i h = length_all_places (take i items) (All-take Short i items few) ∙ ap (λ n. 192 * n) (length-take-le i items h)

  entered_long : (i : ℕ) → i ≤ length items → length (pasted hs 8 (flat_map entry_bytes (take i items))) ≡ length hs
  entered_long i h = length_pasted hs 8 (flat_map entry_bytes (take i items)) (omega (arith, entries_long i h))

  pub laid_more : (i : ℕ) (d : Item) → i < length items → item_written (laid_to hs items i) (length items) i (get_or items i d) ≡ laid_to hs items (i + 1)
  laid_more i d h =
      let k : ℕ = length items in
      let it : Item = get_or items i d in
      let entries : List ℕ = flat_map entry_bytes (take i items) in
      let next : List ℕ = flat_map entry_bytes (take (i + 1) items) in
      let places : List ℕ = flat_map places_bytes (take i items) in
      let short : length (places_bytes (get_or items i d)) ≡ 192 = length_places (get_or items i d) (All-get_or Short items i d h few) in
      let m : 8 + 2 * i ≡ 8 + length (flat_map entry_bytes (take i items)) = omega (arith, entries_long i (omega arith)) in
      let p : 8 + 2 * length items + 192 * i ≡ 8 + 2 * length items + length (flat_map places_bytes (take i items)) = omega (arith, places_long i (omega arith)) in
      let entered : pasted (pasted hs 8 entries) (8 + 2 * i) (entry_bytes it) ≡ pasted hs 8 next =
      ap (λ n. pasted (pasted hs 8 entries) n (entry_bytes it)) m
      ∙ then_pasted hs 8 entries (omega (arith, entries_long i (omega arith))) (entry_bytes it) (omega (arith, entries_long i (omega arith)))
      ∙ ap (pasted hs 8) (joined_take entry_bytes items i d h) in
      ap (λ ws. pasted ws (8 + 2 * k + 192 * i) (places_bytes it))
      (pasted_apart (pasted hs 8 entries) (8 + 2 * i) (entry_bytes it) (8 + 2 * k) places (omega arith)
      (omega (arith, entered_long i (omega arith), places_long i (omega arith)))
      ∙ ap (λ ws. pasted ws (8 + 2 * k) places) entered)
      ∙ ap (λ n. pasted (pasted (pasted hs 8 next) (8 + 2 * k) places) n (places_bytes it)) p
      ∙ then_pasted (pasted hs 8 next) (8 + 2 * k) places (omega (arith, entered_long (i + 1) (omega arith), places_long i (omega arith)))
      (places_bytes it) (omega (arith, entered_long (i + 1) (omega arith), places_long i (omega arith), short))
      ∙ ap (pasted (pasted hs 8 next) (8 + 2 * k)) (joined_take places_bytes items i d h)

pub length_laid : (items : List Item) → AllByRecursion Short items → length (laid_out items) ≡ whole (length items)
length_laid items few =
    length-append (head_bytes (length items)) (flat_map entry_bytes items ++ flat_map places_bytes items)
    ∙ omega (arith, length-append (flat_map entry_bytes items) (flat_map places_bytes items), length_entries items, length_all_places items few)

pub laid_all : (bs hs : List ℕ) (items : List Item) → length bs ≡ whole (length items) → AllByRecursion Short items → hs ≡ pasted bs 0 (head_bytes (length items))
    → (i : ℕ) → length items ≤ i → laid_to hs items i ≡ laid_out items
laid_all bs hs items exact few head i h =
    let k : ℕ = length items in
    let entries : List ℕ = flat_map entry_bytes items in
    let places : List ℕ = flat_map places_bytes items in
    let ml : length (flat_map entry_bytes items) ≡ 2 * length items = length_entries items in
    let pl : length (flat_map places_bytes items) ≡ 192 * length items = length_all_places items few in
    let al = length-append (head_bytes (length items)) (flat_map entry_bytes items) in
    let at : 8 + 2 * length items ≡ 0 + length (head_bytes (length items) ++ flat_map entry_bytes items) = omega arith in
    let same = append_assoc (head_bytes (length items)) (flat_map entry_bytes items) (flat_map places_bytes items) in
    ap (λ its. pasted (pasted hs 8 (flat_map entry_bytes its)) (8 + 2 * k) (flat_map places_bytes its)) (take_all i items h)
    ∙ ap (λ ws. pasted (pasted ws 8 entries) (8 + 2 * k) places) head
    ∙ ap (λ ws. pasted ws (8 + 2 * k) places) (then_pasted bs 0 (head_bytes k) (omega arith) entries (omega arith))
    ∙ ap (λ n. pasted (pasted bs 0 (head_bytes k ++ entries)) n places) at
    ∙ then_pasted bs 0 (head_bytes k ++ entries) (omega arith) places (omega arith)
    ∙ ap (pasted bs 0) same
    ∙ all_pasted bs (laid_out items) (length_laid items few ∙ sym exact)

-- the step of a loop that writes the items, and what its end gives
pub record LaidTo (hs : List ℕ) (items : List Item) (i : ℕ) (bs : List ℕ) : Type 0 where
  pub bytes : bs ≡ laid_to hs items i
  pub fits : AllByRecursion RowFits (take i items)

pub laying_none : (hs : List ℕ) (items : List Item) → LaidTo hs items 0 hs
laying_none hs items = record { bytes = laid_none hs items; fits = tt }

pub laying_more : (hs bs ws : List ℕ) (items : List Item) (i : ℕ) (it : Item) → length hs ≡ whole (length items) → AllByRecursion Short items → i < length items
    → get_or items i it ≡ it → LaidTo hs items i bs → ws ≡ item_written bs (length items) i it → AllByRecursion VersionFits (filled it.row) → LaidTo hs items (i + 1) ws
laying_more hs bs ws items i it exact few h is so_far written fits =
    let one : AllByRecursion VersionFits it.row =
    subst (AllByRecursion VersionFits) (take_at it.row (replicate (8 - length it.row) blank) (length it.row) refl)
    (All-take VersionFits (length it.row) (filled it.row) fits) in
    record {
      bytes =
          written ∙ ap₂ (λ xs x. item_written xs (length items) i x) so_far.bytes (sym is) ∙ laid_more hs items exact few i it h;
      fits = subst (AllByRecursion RowFits) (sym (take_more items i it h))
          (All-append RowFits (take i items) (get_or items i it ∷ []) so_far.fits (subst RowFits (sym is) one, tt));
    }

pub record AllLaid (items : List Item) (bs : List ℕ) : Type 0 where
  pub bytes : bs ≡ laid_out items
  pub fits : AllByRecursion RowFits items

pub laying_all : (bs hs ws : List ℕ) (items : List Item) (i : ℕ) → length bs ≡ whole (length items) → AllByRecursion Short items → hs ≡ pasted bs 0 (head_bytes (length items))
    → length items ≤ i → LaidTo hs items i ws → AllLaid items ws
laying_all bs hs ws items i exact few head h so_far = record {
  bytes = so_far.bytes ∙ laid_all bs hs items exact few head i h;
  fits = subst (AllByRecursion RowFits) (take_all i items h) so_far.fits;
}
