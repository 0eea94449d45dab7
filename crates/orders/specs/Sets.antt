-- One set of walls includes another exactly when it has each of its walls. Assumes nothing.
use Rattle.std.specs.Prelude.{◌≡◌, ℕ, zero, suc, ◌+◌, ◌*◌, ◌/◌, ◌%◌, ◌^◌, ◌<◌, min, true, bit_and}
use Rattle.std.proofs.Common.{inl, inr, sym, ap, ap₂, ◌∙◌, mod-eq_of_lt, pow-suc, one-add, arith}
use Rattle.std.specs.Int.Bits.{and_step}
use Rattle.std.proofs.lemmas.Nat.{mod-pow-add, and_shr, and_le_r}
use Rattle.std.proofs.lemmas.Bool.{eqb-true, eq-eqb, cases_eq}
use Rattle.orders.specs.Bits.{bit}
use Rattle.orders.specs.Labels.{includes}

-- bit k of what two sets share
shared_bit : (s t k : ℕ) → bit_and s t / 2 ^ k % 2 ≡ min (s / 2 ^ k % 2) (t / 2 ^ k % 2)
shared_bit s t k =
    let x : ℕ = s / 2 ^ k in
    let y : ℕ = t / 2 ^ k in
    let e : bit_and s t / 2 ^ k ≡ bit_and (x / 2) (y / 2) * 2 + min (x % 2) (y % 2) = and_shr s t k ∙ and_step x y in
    omega (arith, e)

pub each_wall : (s t : ℕ) → includes s t ≡ true → (w : ℕ) → bit t w ≡ true → bit s w ≡ true
each_wall s t h w i =
    let all : bit_and s t / 2 ^ w % 2 ≡ t / 2 ^ w % 2 = ap (λ n. n / 2 ^ w % 2) (eqb-true (bit_and s t) t h) in
    let one : t / 2 ^ w % 2 ≡ 1 = eqb-true (t / 2 ^ w % 2) 1 i in
    eq-eqb (s / 2 ^ w % 2) 1 (omega (arith, shared_bit s t w))

self_below_pow : (n : ℕ) → n < 2 ^ n
self_below_pow zero = omega arith
self_below_pow (suc n) = omega (arith, self_below_pow n, pow-suc 2 n)

module _ (s t : ℕ) (each : (w : ℕ) → bit t w ≡ true → bit s w ≡ true) where
  same_bit : (k : ℕ) → bit_and s t / 2 ^ k % 2 ≡ t / 2 ^ k % 2
  same_bit k =
      elim (cases_eq (t / 2 ^ k % 2) 1) [
        | inl one ↦ omega (arith, shared_bit s t k, one, eqb-true (s / 2 ^ k % 2) 1 (each k (eq-eqb (t / 2 ^ k % 2) 1 one)))
        | inr none ↦ omega (arith, shared_bit s t k, none)
      ]

  low_bits : (k : ℕ) → bit_and s t % 2 ^ k ≡ t % 2 ^ k
  low_bits zero = omega arith
  low_bits (suc k) =
      rw (one-add k) at
      (mod-pow-add (bit_and s t) 1 k ∙ ap₂ (λ x y. x * 2 ^ k + y) (same_bit k) (low_bits k) ∙ sym (mod-pow-add t 1 k))

  pub includes_by_walls : includes s t ≡ true
  includes_by_walls =
      let small : bit_and s t < 2 ^ t = omega (arith, and_le_r s t, self_below_pow t) in
      eq-eqb (bit_and s t) t (sym (mod-eq_of_lt small) ∙ low_bits t ∙ mod-eq_of_lt (self_below_pow t))
