-- The row of an item as it is read, and what an accepted edit of it leaves. Assumes nothing.
use Rattle.std.proofs.Common.{◌≡◌, ℕ, ◌+◌, ◌*◌, ◌<◌, ◌≤◌, true, false, ◌&&◌, nat_le, List, ◌++◌, length, take, set, Some, None, Option, MatchOption, sym, refl, ap, ap₂, ◌∙◌, subst, inl, inr}
use Rattle.std.specs.List.{slice_get}
use Rattle.std.specs.Option.{option_map}
use Rattle.std.proofs.ByRecursion.{All-get_or}
use Rattle.std.proofs.lemmas.List.FromFn.{length-map-range_with_len}
use Rattle.std.proofs.lemmas.Option.{none-some, same_Some, slice_get_within, slice_get_past, get_or_from_slice_get}
use Rattle.std.proofs.lemmas.Bool.{and_from, le-leb, cases_lt, false≢true}
use Rattle.shelves.specs.Edits.{fits, edited, accepts}
use Rattle.shelves.specs.Items.{Item, ShelfLaws, row_in, row_of, accepts_in, accepts_at}
use Rattle.shelves.specs.RowEdits.{versions, makes_row, RowMade}
use Rattle.shelves.specs.RowsAfter.{versions_edited}
use Rattle.shelves.specs.Rows.{keeps_rule}
use Rattle.shelves.specs.declared.edit.Edit.{Edit}
use Rattle.shelves.specs.declared.row.Row.{Row}
use Rattle.shelves.specs.declared.version.Version.{Version}
use Rattle.shelves.proofs.Ruled.{rule_decides}
use Rattle.fields.specs.Fields.{byte, version_at}
use Rattle.fields.specs.Written.{row_bytes, pasted}
use Rattle.image.specs.Decided.{EditFits, RowsEdited}
use Rattle.image.specs.Laid.{filled}
use Rattle.image.specs.Images.{is_image}
use Rattle.image.specs.Layout.{item_count, used_at, row_start, item_at, image_items}
use Rattle.image.specs.Writes.{freed}
use Rattle.image.specs.Counted.{nth_counted, nth_past_counted}
use Rattle.image.specs.Shelved.{Written, edit_written}
use Rattle.image.proofs.Filled.{filled_front}

row_ruled : (items : List Item) (i : ℕ) (it : Item) → ShelfLaws items → slice_get items i ≡ Some it → keeps_rule it.row ≡ true
row_ruled items i it laws is =
    subst (λ (x : Item). keeps_rule x.row ≡ true) (get_or_from_slice_get items i it it is)
    (All-get_or (λ (x : Item). keeps_rule x.row ≡ true) items i it (slice_get_within items i it is) laws.ruled)

-- the row of an item is made of the versions that are looked at, and there is none where there is no item
made_of : (o : Option Item) → ((it : Item) → o ≡ Some it → keeps_rule it.row ≡ true)
    → (r : Option Row) → MatchOption r (makes_row (filled (row_in o)) (length (row_in o)) ≡ false) (RowMade (filled (row_in o)) (length (row_in o)))
    → option_map versions r ≡ option_map (λ it. it.row) o
made_of None ruled None m = refl
made_of None ruled (Some r) m = absurd (false≢true m.made)
made_of (Some it) ruled None m =
    let few = ((rule_decides it.row).0 (ruled it refl)).few in
    absurd (false≢true (sym m ∙ and_from (nat_le (length it.row) 8) (keeps_rule (take (length it.row) (filled it.row))) (le-leb (length it.row) 8 few)
    (ap keeps_rule (filled_front it.row) ∙ ruled it refl)))
made_of (Some it) ruled (Some r) m = ap Some (ap₂ take m.count m.places ∙ filled_front it.row)

pub row_is : (items : List Item) (i : ℕ) → ShelfLaws items → (ps : List Version) → ps ≡ filled (row_of items i) → (n : ℕ) → n ≡ length (row_of items i)
    → (r : Option Row) → MatchOption r (makes_row ps n ≡ false) (RowMade ps n) → option_map versions r ≡ option_map (λ it. it.row) (slice_get items i)
row_is items i laws ps p n q r m =
    made_of (slice_get items i) (λ it is. row_ruled items i it laws is) r (subst (λ vs. MatchOption r (makes_row vs (length (row_of items i)) ≡ false) (RowMade vs (length (row_of items i)))) p
    (subst (λ k. MatchOption r (makes_row ps k ≡ false) (RowMade ps k)) q m))

-- what is refused before a version is read
unfit_in : (o : Option Item) (e : Edit) → fits e (length (row_in o)) ≡ false → accepts_in e o ≡ false
unfit_in None e h = refl
unfit_in (Some it) e h = ap (λ b. b && keeps_rule (edited e it.row)) h

pub unfit_edit : (items : List Item) (i : ℕ) (e : Edit) → fits e (length (row_of items i)) ≡ false → accepts_at items i e ≡ false
unfit_edit items i e h = unfit_in (slice_get items i) e h

pub unknown_edit : (items : List Item) (i : ℕ) (e : Edit) → length items ≤ i → accepts_at items i e ≡ false
unknown_edit items i e h = ap (accepts_in e) (slice_get_past items i h)

module _ (bs : List ℕ) (i : ℕ) (e : Edit) where
  pub known_edit : i < item_count bs → accepts_at (image_items bs) i e ≡ accepts e (item_at bs i).row
  known_edit h = ap (accepts_in e) (nth_counted (item_at bs) (item_count bs) i h)

  long_row : length (item_at bs i).row ≡ used_at bs i
  long_row = length-map-range_with_len (λ j. version_at bs (row_start bs i + 24 * j)) 0 (used_at bs i)

-- the item whose row was read
pub record ReadRow (bs : List ℕ) (i : ℕ) (r : Row) : Type 0 where
  pub known : i < item_count bs
  pub row : versions r ≡ (item_at bs i).row

pub read_row : (bs : List ℕ) (i : ℕ) (r : Row) → Some (versions r) ≡ option_map (λ it. it.row) (slice_get (image_items bs) i) → ReadRow bs i r
read_row bs i r is =
    elim (cases_lt i (item_count bs)) [
      | inl h ↦ record {
        known = h;
        row = same_Some (versions r) (item_at bs i).row (is ∙ ap (option_map (λ it. it.row)) (nth_counted (item_at bs) (item_count bs) i h));
      }
      | inr h ↦ absurd (none-some (versions r) (sym (is ∙ ap (option_map (λ it. it.row)) (nth_past_counted (item_at bs) (item_count bs) i h))))
    ]

-- all bytes after one that it accepts
pub row_written : (bs : List ℕ) (i : ℕ) (e : Edit) (r s : Row) → RowsEdited bs i e (r, s) → is_image bs ≡ true → EditFits e → ((k : ℕ) → byte bs k < 256)
    → (before after : List ℕ) (at p n : ℕ) → after ≡ pasted before at (row_bytes (versions s ++ freed (length (versions r)) (length (versions s))))
    → before ≡ bs → at ≡ row_start bs i → p ≡ 9 + 2 * i → n ≡ length (versions s) → Written bs i e (set after p n)
row_written bs i e r s x ok fit small before after at p n put is start used_place count =
    let row : versions s ≡ edited e (item_at bs i).row = versions_edited e r s x.edited ∙ ap (edited e) x.row in
    let used : length (versions r) ≡ used_at bs i = ap length x.row ∙ long_row bs i e in
    edit_written bs (set after p n) i e ok x.known (ap (accepts e) (sym x.row) ∙ x.edited.accepted) fit small
    (ap (λ q. set after q n) used_place
    ∙ ap₂ (λ xs k. set xs (9 + 2 * i) k)
    (put ∙ ap₂ (λ xs p. pasted xs p (row_bytes (versions s ++ freed (length (versions r)) (length (versions s))))) is start) count
    ∙ ap₂ (λ vs k. set (pasted bs (row_start bs i) (row_bytes (vs ++ freed k (length vs)))) (9 + 2 * i) (length vs)) row used)
