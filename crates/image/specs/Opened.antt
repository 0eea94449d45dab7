-- What opening bytes gives. Assumes nothing.
use Rattle.std.specs.Prelude.{◌≡◌, ℕ, List, Some, None, Ok, Err, vec_items, Result}
use Rattle.shelves.specs.Items.{Item}
use Rattle.image.specs.declared.opening.Image.{Image}
use Rattle.image.specs.declared.opening.NotImage.{NotImage}
use Rattle.shelves.specs.declared.edit.Edit.{Edit}
use Rattle.image.specs.Decided.{BytesEdited}
use Rattle.image.specs.Faults.{fault}
use Rattle.image.specs.Layout.{image_items}

abbrev pub bytes_of : Image → List ℕ
bytes_of m = vec_items m.bytes

abbrev pub items_of : Image → List Item
items_of m = image_items (bytes_of m)

-- an image over exactly these bytes if they have no fault; otherwise the bytes again, with the first fault's offset
abbrev pub Opens : List ℕ → Result Image NotImage → Type 0
Opens bs (Ok m) = (fault bs ≡ None) × (bytes_of m ≡ bs)
Opens bs (Err e) = (fault bs ≡ Some e.offset) × (vec_items e.bytes ≡ bs)

-- n is the image m after an accepted edit of item i, in all its bytes
abbrev pub ImageEdited : Image → ℕ → Edit → Image → Type 0
ImageEdited m i e n = BytesEdited (bytes_of m) i e (bytes_of n)
