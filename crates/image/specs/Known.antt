-- What is known of the bytes of an image. Assumes nothing.
use Rattle.std.specs.Prelude.{◌≡◌, ℕ, ◌+◌, ◌*◌, ◌<◌, ◌≤◌, true, not, List, length, is_some, Some, None, Option, refl}
use Rattle.std.proofs.Common.{inl, inr, ap, ◌∙◌, arith}
use Rattle.std.specs.List.{slice_get}
use Rattle.std.proofs.lemmas.List.FromFn.{length-map-range_with_len}
use Rattle.std.proofs.lemmas.Bool.{false≢true, cases_lt}
use Rattle.shelves.specs.Items.{level_in, row_in, level_of, row_of}
use Rattle.image.specs.Faults.{fault}
use Rattle.image.specs.Images.{is_image}
use Rattle.fields.specs.Fields.{version_at}
use Rattle.image.specs.Layout.{item_count, level_at, used_at, row_start, row_at, item_at, image_items, IsImage}
use Rattle.image.specs.Counted.{nth_counted, nth_past_counted}
use Rattle.image.specs.Sound.{fault_parts, fault_none}

none_if : (o : Option ℕ) → not (is_some o) ≡ true → o ≡ None
none_if None h = refl
none_if (Some x) h = absurd (false≢true h)

pub image_ok : (bs : List ℕ) → is_image bs ≡ true → IsImage bs
unfolding is_image
image_ok bs h = fault_parts bs (none_if (fault bs) h)

pub ok_if_none : (bs : List ℕ) → fault bs ≡ None → is_image bs ≡ true
unfolding is_image
ok_if_none bs h = ap (λ o. not (is_some o)) h

pub ok_image : (bs : List ℕ) → IsImage bs → is_image bs ≡ true
ok_image bs m = ok_if_none bs (fault_none bs m)

module _ (bs : List ℕ) where
  pub length_items : length (image_items bs) ≡ item_count bs
  length_items = length-map-range_with_len (item_at bs) 0 (item_count bs)

  module _ (i : ℕ) where
    pub known_level : i < item_count bs → level_of (image_items bs) i ≡ level_at bs i
    known_level h = ap level_in (nth_counted (item_at bs) (item_count bs) i h)

    pub known_row : i < item_count bs → row_of (image_items bs) i ≡ row_at bs (row_start bs i) (used_at bs i)
    known_row h = ap row_in (nth_counted (item_at bs) (item_count bs) i h)

    pub known_versions : i < item_count bs → length (row_of (image_items bs) i) ≡ used_at bs i
    known_versions h = ap length (known_row h) ∙ length-map-range_with_len (λ j. version_at bs (row_start bs i + 24 * j)) 0 (used_at bs i)

    pub unknown_versions : item_count bs ≤ i → length (row_of (image_items bs) i) ≡ 0
    unknown_versions h = ap (λ o. length (row_in o)) (nth_past_counted (item_at bs) (item_count bs) i h)

    pub known_look : (j : ℕ) → i < item_count bs → j < used_at bs i → slice_get (row_of (image_items bs) i) j ≡ Some (version_at bs (row_start bs i + 24 * j))
    known_look j h l = ap (λ vs. slice_get vs j) (known_row h) ∙ nth_counted (λ m. version_at bs (row_start bs i + 24 * m)) (used_at bs i) j l

pub few_used : (bs : List ℕ) (i : ℕ) → IsImage bs → i < item_count bs → used_at bs i ≤ 8
few_used bs i m h =
    omega (arith, (m.items i h).rule.few, length-map-range_with_len (λ j. version_at bs (row_start bs i + 24 * j)) 0 (used_at bs i))

-- a place that a row has
pub record LookedAt (bs : List ℕ) (i j : ℕ) : Type 0 where
  pub known : i < item_count bs
  pub place : j < used_at bs i
  pub few : used_at bs i ≤ 8
  pub look : slice_get (row_of (image_items bs) i) j ≡ Some (version_at bs (row_start bs i + 24 * j))

pub looked_at : (bs : List ℕ) (i j : ℕ) → IsImage bs → j < length (row_of (image_items bs) i) → LookedAt bs i j
looked_at bs i j m h =
    elim (cases_lt i (item_count bs)) [
      | inl l ↦
          let place : j < used_at bs i = omega (arith, known_versions bs i l) in
          record { known = l; place = place; few = few_used bs i m l; look = known_look bs i j l place }
      | inr l ↦ absurd (omega (arith, unknown_versions bs i l))
    ]
