-- The search for a label, as the `contains` of a slice answers it.
use Rattle.std.proofs.Common.{◌≡◌, ◌||◌, List, [], ◌∷◌, refl, ap}
use Rattle.std.specs.List.{list_any}
use Rattle.orders.specs.declared.label.Label.{Label}
use Rattle.orders.specs.Labels.{equal_labels, holds}

pub holds_any : (xs : List Label) (l : Label) → list_any (λ x. equal_labels x l) xs ≡ holds xs l
holds_any [] l = refl
holds_any (x ∷ xs) l = ap (λ b. equal_labels x l || b) (holds_any xs l)
