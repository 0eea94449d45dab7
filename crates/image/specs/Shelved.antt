-- What an image owes as a shelf. Assumes nothing.
use Rattle.std.specs.Prelude.{◌≡◌, ℕ, ◌<◌, true, List, length, slice_index_or}
use Rattle.std.proofs.Common.{sym, ap, subst, ◌∙◌, arith}
use Rattle.std.proofs.lemmas.List.FromFn.{get_or-map-range_with_len}
use Rattle.std.proofs.ByRecursion.{All-from_get_or}
use Rattle.shelves.specs.Edits.{accepts}
use Rattle.shelves.specs.Items.{Item, ShelfLaws, items_after}
use Rattle.shelves.specs.Rows.{keeps_rule}
use Rattle.shelves.specs.declared.edit.Edit.{Edit}
use Rattle.shelves.proofs.Ruled.{rule_decides}
use Rattle.fields.specs.Fields.{byte}
use Rattle.image.specs.Decided.{EditFits, BytesEdited}
use Rattle.image.specs.Images.{is_image}
use Rattle.image.specs.Layout.{item_count, item_at, image_items, IsImage}
use Rattle.image.specs.Writes.{bytes_after}
use Rattle.image.specs.After.{after_image, after_items, same_length}
use Rattle.image.specs.Known.{image_ok, length_items}

pub image_lawful : (bs : List ℕ) → is_image bs ≡ true → ShelfLaws (image_items bs)
image_lawful bs ok =
    let m = image_ok bs ok in
    record {
      few = omega (arith, length_items bs, m.few);
      ruled = All-from_get_or (λ it. keeps_rule it.row ≡ true) (image_items bs) (item_at bs 0)
          (λ i h.
          let l : i < item_count bs = omega (arith, length_items bs) in
          let is : slice_index_or (image_items bs) i (item_at bs 0) ≡ item_at bs i = get_or-map-range_with_len (item_at bs) 0 (item_count bs) i i (item_at bs 0) l (omega arith) in
          subst (λ (it : Item). keeps_rule it.row ≡ true) (sym is) ((rule_decides (item_at bs i).row).1 (m.items i l).rule));
    }

pub image_traced : (bs cs : List ℕ) (i : ℕ) (e : Edit) → is_image bs ≡ true → BytesEdited bs i e cs → image_items cs ≡ items_after (image_items bs) i e
image_traced bs cs i e ok x =
    ap image_items x.bytes ∙ after_items bs i e (image_ok bs ok) x.known x.accepted x.fits x.small

pub image_stays : (bs cs : List ℕ) (i : ℕ) (e : Edit) → is_image bs ≡ true → BytesEdited bs i e cs → IsImage cs
image_stays bs cs i e ok x =
    subst IsImage (sym x.bytes) (after_image bs i e (image_ok bs ok) x.known x.accepted x.fits x.small)

-- what was decided and written
pub record Written (bs : List ℕ) (i : ℕ) (e : Edit) (ws : List ℕ) : Type 0 where
  pub edited : BytesEdited bs i e ws
  pub same_length : length ws ≡ length bs

pub edit_written : (bs ws : List ℕ) (i : ℕ) (e : Edit) → is_image bs ≡ true → i < item_count bs → accepts e (item_at bs i).row ≡ true → EditFits e
    → ((k : ℕ) → byte bs k < 256) → ws ≡ bytes_after bs i e → Written bs i e ws
edit_written bs ws i e ok known accepted fit small is = record {
  edited = record { known = known; accepted = accepted; fits = fit; small = small; bytes = is };
  same_length = ap length is ∙ same_length bs i e (image_ok bs ok) known accepted fit small;
}
