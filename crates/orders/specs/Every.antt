-- What `every` says of each number below a bound. Assumes nothing.
use Rattle.std.specs.Prelude.{◌≡◌, ℕ, ◌<◌, Bool, true, Decides, refl}
use Rattle.std.proofs.lemmas.Bool.Decides.{Decides-below_and}
use Rattle.orders.specs.Orders.{every}

pub every_decides : (p : ℕ → Bool) (n : ℕ) → Decides (every n p) ((k : ℕ) → k < n → p k ≡ true)
every_decides p n = Decides-below_and p (λ k. p k ≡ true) (λ m. every m p) (λ k. (λ e. e, λ e. e)) refl (λ _. refl) n
