-- Bytes that are an image, as a test. Assumes nothing.
use Rattle.std.specs.Prelude.{ℕ, Bool, not, List, is_some}
use Rattle.image.specs.Faults.{fault}

unfoldable pub is_image : List ℕ → Bool
is_image bs = not (is_some (fault bs))
