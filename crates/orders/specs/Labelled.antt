-- Labels under `covers` are partially ordered, and so is a list of labels no two of which are equal. Assumes nothing.
use Rattle.std.specs.Prelude.{◌≡◌, ℕ, zero, suc, ◌+◌, ◌<◌, ◌≤◌, true, false, not, List, [], ◌∷◌, ◌++◌, length, get_or, take, Some, None, Decides, Option, ◌==◌, bit_and, nat_le, slice_set, refl}
use Rattle.std.proofs.Common.{inl, inr, sym, ap, ap₂, ◌∙◌, arith}
use Rattle.std.proofs.lemmas.Nat.{and_comm}
use Rattle.std.proofs.lemmas.Option.{none-some, same_Some, slice_get_within}
use Rattle.std.proofs.lemmas.List.{length-take-le, take_more_set}
use Rattle.std.proofs.lemmas.Option.{slice_get-get_or}
use Rattle.std.proofs.lemmas.Bool.{and_parts, and_from, eqb-true, eq-eqb, leb-true, le-leb, or_right, or_left, or_parts, or_from, not-true, not_from_false, both_ways, cases_Bool, false≢true}
use Rattle.std.proofs.lemmas.Bool.Decides.{nat_tests, Decides-by_or}
use Rattle.std.specs.List.{ContainsAt as Has, slice_get}
use Rattle.orders.specs.declared.label.Label.{Label}
use Rattle.orders.specs.Labels.{includes, covers, Covers, equal_labels, holds, distinct, label_refusal, covers_if, walled}
use Rattle.orders.specs.Orders.{PartialOrder}
use Rattle.orders.specs.Sets.{each_wall, includes_by_walls}

-- a label of rank 0 with no wall
abbrev pub plain : Label
plain = record { rank = 0; walls = 0 }

pub covers_wall_by_wall : (a b : Label) → Decides (covers a b) (Covers a b)
covers_wall_by_wall a b = (
  λ h. let p = and_parts (nat_le b.rank a.rank) (includes a.walls b.walls) h in
      record { rank = leb-true b.rank a.rank p.0; walls = each_wall a.walls b.walls p.1 },
  λ h. and_from (nat_le b.rank a.rank) (includes a.walls b.walls)
      (le-leb b.rank a.rank h.rank) (includes_by_walls a.walls b.walls h.walls),
)

covers_itself : (a : Label) → covers a a ≡ true
covers_itself a = (covers_wall_by_wall a a).1 record { rank = omega arith; walls = λ w i. i }

covers_through : (a b c : Label) → covers a b ≡ true → covers b c ≡ true → covers a c ≡ true
covers_through a b c h k =
    let ab : Covers a b = (covers_wall_by_wall a b).0 h in
    let bc : Covers b c = (covers_wall_by_wall b c).0 k in
    (covers_wall_by_wall a c).1 record { rank = omega (arith, ab.rank, bc.rank); walls = λ w i. ab.walls w (bc.walls w i) }

covers_same : (a b : Label) → covers a b ≡ true → covers b a ≡ true → equal_labels a b ≡ true
covers_same a b h k =
    let p = and_parts (nat_le b.rank a.rank) (includes a.walls b.walls) h in
    let q = and_parts (nat_le a.rank b.rank) (includes b.walls a.walls) k in
    let ranks : a.rank ≡ b.rank = omega (arith, leb-true b.rank a.rank p.0, leb-true a.rank b.rank q.0) in
    let walls : a.walls ≡ b.walls =
    sym (eqb-true (bit_and b.walls a.walls) a.walls q.1) ∙ and_comm b.walls a.walls ∙ eqb-true (bit_and a.walls b.walls) b.walls p.1 in
    and_from (a.rank == b.rank) (a.walls == b.walls) (eq-eqb a.rank b.rank ranks) (eq-eqb a.walls b.walls walls)

-- the test of equal labels, and the search for one, mean what they say
equal_decides : (a b : Label) → Decides (equal_labels a b) (a ≡ b)
equal_decides a b = (
  λ h. let p = and_parts (a.rank == b.rank) (a.walls == b.walls) h in
      ap₂ (λ r w. record { rank = r; walls = w }) (eqb-true a.rank b.rank p.0) (eqb-true a.walls b.walls p.1),
  λ e. and_from (a.rank == b.rank) (a.walls == b.walls)
      (eq-eqb a.rank b.rank (ap (λ l. l.rank) e)) (eq-eqb a.walls b.walls (ap (λ l. l.walls) e)),
)

equal_flip : (a b : Label) → equal_labels a b ≡ true → equal_labels b a ≡ true
equal_flip a b h = (equal_decides b a).1 (sym ((equal_decides a b).0 h))

pub holds_decides : (xs : List Label) (l : Label) → Decides (holds xs l) (Has xs l)
holds_decides xs l =
    Decides-by_or (λ x. equal_labels x l) (λ x. x ≡ l) (λ ys. holds ys l) (λ x. equal_decides x l) refl (λ _ _. refl) xs

holds_push : (xs : List Label) (l x : Label) → holds xs x ≡ false → equal_labels l x ≡ false → holds (xs ++ l ∷ []) x ≡ false
holds_push [] l x h k = rw k
holds_push (y ∷ ys) l x h k =
    let p = or_parts (equal_labels y x) (holds ys x) h in
    or_from (equal_labels y x) (holds (ys ++ l ∷ []) x) p.0 (holds_push ys l x p.1 k)

holds_at : (xs : List Label) (x y : Label) (i : ℕ) → slice_get xs i ≡ Some x → equal_labels x y ≡ true → holds xs y ≡ true
holds_at [] x y i h k = absurd (none-some x h)
holds_at (z ∷ zs) x y zero h k = or_left (equal_labels z y) (holds zs y) (rw (same_Some z x h) k)
holds_at (z ∷ zs) x y (suc i) h k = or_right (equal_labels z y) (holds zs y) (holds_at zs x y i h k)

-- one label more that is not there yet
pub distinct_push : (xs : List Label) (l : Label) → distinct xs ≡ true → holds xs l ≡ false → distinct (xs ++ l ∷ []) ≡ true
distinct_push [] l d h = refl
distinct_push (y ∷ ys) l d h =
    let p = and_parts (not (holds ys y)) (distinct ys) d in
    let q = or_parts (equal_labels y l) (holds ys l) h in
    let apart : equal_labels l y ≡ false =
    elim (cases_Bool (equal_labels l y)) [ inl e ↦ absurd (both_ways (equal_labels y l) q.0 (equal_flip l y e)) | inr e ↦ e ] in
    and_from (not (holds (ys ++ l ∷ []) y)) (distinct (ys ++ l ∷ []))
    (not_from_false (holds (ys ++ l ∷ []) y) (holds_push ys l y (not-true (holds ys y) p.0) apart))
    (distinct_push ys l p.1 q.1)

-- equal labels stand at one place
distinct_place : (xs : List Label) → distinct xs ≡ true → (i j : ℕ) (x y : Label) → slice_get xs i ≡ Some x → slice_get xs j ≡ Some y
    → equal_labels x y ≡ true → i ≡ j
distinct_place [] d i j x y hi hj e = absurd (none-some x hi)
distinct_place (z ∷ zs) d zero zero x y hi hj e = refl
distinct_place (z ∷ zs) d zero (suc j) x y hi hj e =
    let p = and_parts (not (holds zs z)) (distinct zs) d in
    absurd (both_ways (holds zs z) (not-true (holds zs z) p.0) (holds_at zs y z j hj (rw (same_Some z x hi) (equal_flip x y e))))
distinct_place (z ∷ zs) d (suc i) zero x y hi hj e =
    let p = and_parts (not (holds zs z)) (distinct zs) d in
    absurd (both_ways (holds zs z) (not-true (holds zs z) p.0) (holds_at zs x z i hi (rw (same_Some z y hj) e)))
distinct_place (z ∷ zs) d (suc i) (suc j) x y hi hj e =
    let p = and_parts (not (holds zs z)) (distinct zs) d in
    ap suc (distinct_place zs p.1 i j x y hi hj e)

-- what it says that a dominates b
record Dominates (ls : List Label) (a b : ℕ) : Type 0 where
  upper : Label
  lower : Label
  upper_is : slice_get ls a ≡ Some upper
  lower_is : slice_get ls b ≡ Some lower
  covered : covers upper lower ≡ true

dominates_parts : (ls : List Label) (a b : ℕ) → (walled ls).dominates a b ≡ true → Dominates ls a b
dominates_parts ls a b h = by (slice_get ls a) (slice_get ls b) refl refl h
  where
    by : (x y : Option Label) → slice_get ls a ≡ x → slice_get ls b ≡ y → covers_if x y ≡ true → Dominates ls a b
    by (Some x) (Some y) p q h = record { upper = x; lower = y; upper_is = p; lower_is = q; covered = h }
    by (Some x) None p q h = absurd (false≢true h)
    by None y p q h = absurd (false≢true h)

dominates_from : (ls : List Label) (a b : ℕ) → Dominates ls a b → (walled ls).dominates a b ≡ true
dominates_from ls a b d = rw (d.upper_is, d.lower_is) d.covered

pub walled_lawful : (ls : List Label) → 1 ≤ length ls → length ls ≤ 16 → distinct ls ≡ true → PartialOrder (walled ls)
walled_lawful ls some few d = record {
  some_level = some;
  few_levels = few;
  reflexive = λ a h. let x : Label = get_or ls a plain in let e = slice_get-get_or ls a plain h in
      dominates_from ls a a record { upper = x; lower = x; upper_is = e; lower_is = e; covered = covers_itself x };
  transitive = λ a b c h k.
      let ab = dominates_parts ls a b h in
      let bc = dominates_parts ls b c k in
      let joint = same_Some ab.lower bc.upper (sym ab.lower_is ∙ bc.upper_is) in
      dominates_from ls a c record {
        upper = ab.upper;
        lower = bc.lower;
        upper_is = ab.upper_is;
        lower_is = bc.lower_is;
        covered = covers_through ab.upper ab.lower bc.lower ab.covered (rw joint bc.covered);
      };
  antisymmetric = λ a b h k.
      let ab = dominates_parts ls a b h in
      let ba = dominates_parts ls b a k in
      let lower = same_Some ab.lower ba.upper (sym ab.lower_is ∙ ba.upper_is) in
      let upper = same_Some ab.upper ba.lower (sym ab.upper_is ∙ ba.lower_is) in
      distinct_place ls d a b ab.upper ab.lower ab.upper_is ab.lower_is
      (covers_same ab.upper ab.lower ab.covered (rw (lower, upper) ba.covered));
  upper_level = λ a b h. let ab = dominates_parts ls a b h in slice_get_within ls a ab.upper ab.upper_is;
  lower_level = λ a b h. let ab = dominates_parts ls a b h in slice_get_within ls b ab.lower ab.lower_is;
}

-- a label that is not refused, stored behind the first n of 16 places: no two are equal still
pub distinct_stored : (n : ℕ) (ls : List Label) (l : Label) → length ls ≡ 16 → distinct (take n ls) ≡ true → label_refusal (take n ls) l ≡ None
    → n < 16 → distinct (take (n + 1) (slice_set ls n l)) ≡ true
distinct_stored n ls l full d e room =
    let count : length (take n ls) ≡ n = length-take-le n ls (omega arith) in
    let new : holds (take n ls) l ≡ false = grind (arith, nat_tests) in
    ap distinct (take_more_set ls n l (omega arith)) ∙ distinct_push (take n ls) l d new
