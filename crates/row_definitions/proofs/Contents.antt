-- What divides each entry of the combination of primitive rows.
use Rattle.std.proofs.Common.{◌≡◌, ℕ, zero, suc, ◌+◌, ◌*◌, ◌<◌, List, [], ◌∷◌, length, ℤ, pos, ◌*ℤ◌, ◌-ℤ◌, ◌<ℤ◌, unsigned_abs, refl, sym, ap, ap₂, subst, ◌∙◌, arith, mul_comm}
use Rattle.std.specs.Int.{◌∣◌}
use Rattle.std.proofs.lemmas.Int.{ints, unsigned_abs-mul}
use Rattle.std.proofs.lemmas.Nat.Gcd.{dvd_trans, dvd_refl, dvd-zero}
use Rattle.std.proofs.Math.Nat.{dvd-mul_left, dvd-mul_right, dvd-mul_right_of_dvd, eq-one_of_dvd-one}
use Rattle.std.proofs.Math.IntN.{*ℤ-zero, +ℤ_idr}
use Rattle.row_definitions.specs.Rows.{entry, row_divisor, divided, primitive_row, scaled}
use Rattle.row_definitions.specs.Combination.{column_divisor, target_factor, pivot_factor, reduced_combination}
use Rattle.row_definitions.specs.Laws.{IsNonZeroRow, ContentDividesTarget, ContentDividesPivot}
use Rattle.row_definitions.proofs.Numbers.{divided-exact, *ℤ--ℤ}
use Rattle.row_definitions.proofs.Divisors.{Divides, Divides-entry, row_divisor_is}
use Rattle.row_definitions.proofs.Primitives.{scaled-primitive_row, row_divisor-pos, row_divisor-scaled}
use Rattle.row_definitions.proofs.Combinations.{size-pos, column_divisor-pos, target_factor-exact, pivot_factor-exact, entry-combination}

-- the divisor of a primitive row
own_factor : (g : ℕ) → 0 < g → g ≡ g * g → g ≡ 1
own_factor zero some e = absurd (omega arith)
own_factor (suc zero) some e = refl
own_factor (suc (suc g)) some e = absurd (omega arith)

row_divisor-primitive : (row : List ℤ) → primitive_row row ≡ row → IsNonZeroRow row → row_divisor row ≡ 1
row_divisor-primitive row primitive some =
    let g = row_divisor row in
    let above = row_divisor-pos row some in
    let whole : row ≡ scaled g row = sym (scaled-primitive_row row) ∙ ap (scaled g) primitive in
    own_factor g above (ap row_divisor whole ∙ row_divisor-scaled g row above)

-- what divides all products of a number with two that have no common divisor divides the number
without_common : (x y : ℤ) (d k : ℕ) → row_divisor (x ∷ y ∷ []) ≡ 1 → d ∣ k * unsigned_abs x → d ∣ k * unsigned_abs y → d ∣ k
without_common x y d zero one first second = dvd-zero d
without_common x y d (suc k) one first second =
    let pair = x ∷ y ∷ [] in
    let each : Divides d (scaled (suc k) pair) = (subst (λ n. d ∣ n) (sym (unsigned_abs-mul (pos (suc k)) x)) first, (subst (λ n. d ∣ n) (sym (unsigned_abs-mul (pos (suc k)) y)) second, tt)) in
    let whole : row_divisor (scaled (suc k) pair) ≡ suc k = row_divisor-scaled (suc k) pair (omega arith) ∙ ap (λ n. suc k * n) one ∙ omega arith in
    subst (λ n. d ∣ n) whole ((row_divisor_is (scaled (suc k) pair)).1 d each)

-- what divides a number and its difference with another divides the other
other_divides : (d : ℕ) (x y : ℤ) → d ∣ unsigned_abs x → d ∣ unsigned_abs (x -ℤ y) → d ∣ unsigned_abs y
other_divides d x y first difference =
    let q = divided d x in
    let r = divided d (x -ℤ y) in
    let back : x -ℤ (x -ℤ y) ≡ y = omega (arith, ints) in
    let is : pos d *ℤ (q -ℤ r) ≡ y = *ℤ--ℤ (pos d) q r ∙ ap₂ (λ a b. a -ℤ b) (divided-exact d x first) (divided-exact d (x -ℤ y) difference) ∙ back in
    subst (λ n. d ∣ n) (sym (unsigned_abs-mul (pos d) (q -ℤ r)) ∙ ap unsigned_abs is) (dvd-mul_right d (unsigned_abs (q -ℤ r)))

-- the same of the number that is taken from
first_divides : (d : ℕ) (x y : ℤ) → d ∣ unsigned_abs y → d ∣ unsigned_abs (x -ℤ y) → d ∣ unsigned_abs x
first_divides d x y second difference =
    let turned : y -ℤ (y -ℤ x) ≡ x = omega (arith, ints) in
    let size : unsigned_abs (x -ℤ y) ≡ unsigned_abs (y -ℤ x) = omega (arith, ints) in
    other_divides d y x second (subst (λ n. d ∣ n) size difference)

-- ---- the factors have no common divisor

factors_apart : (target pivot : List ℤ) (at : ℕ) → pos 0 <ℤ entry pivot at → row_divisor (target_factor target pivot at ∷ pivot_factor target pivot at ∷ []) ≡ 1
factors_apart target pivot at positive =
    let g = column_divisor target pivot at in
    let above = column_divisor-pos target pivot at positive in
    let rest = target_factor target pivot at ∷ pivot_factor target pivot at ∷ [] in
    let whole : scaled g rest ≡ entry pivot at ∷ entry target at ∷ [] = ap₂ (λ x y. x ∷ y ∷ []) (target_factor-exact target pivot at) (pivot_factor-exact target pivot at) in
    cancelled g (row_divisor rest) above (sym (row_divisor-scaled g rest above) ∙ ap row_divisor whole)
  where
    cancelled : (g n : ℕ) → 0 < g → g * n ≡ g → n ≡ 1
    cancelled g zero some e = absurd (omega arith)
    cancelled g (suc zero) some e = refl
    cancelled g (suc (suc n)) some e = absurd (omega (arith, e))

-- ---- what divides each entry of the combination

Divides-from_entries : (d : ℕ) (row : List ℤ) → ((k : ℕ) → d ∣ unsigned_abs (entry row k)) → Divides d row
Divides-from_entries d [] each = tt
Divides-from_entries d (x ∷ row) each = (each zero, Divides-from_entries d row (λ k. each (suc k)))

-- the entry of a column, and a factor, with what is known of both
swapped_product : (d : ℕ) (a x : ℤ) → d ∣ unsigned_abs (a *ℤ x) → d ∣ unsigned_abs x * unsigned_abs a
swapped_product d a x h = subst (λ n. d ∣ n) (unsigned_abs-mul a x ∙ mul_comm (unsigned_abs a) (unsigned_abs x)) h

factor_divides : (d : ℕ) (a x : ℤ) → d ∣ unsigned_abs a → d ∣ unsigned_abs (a *ℤ x)
factor_divides d a x h = subst (λ n. d ∣ n) (sym (unsigned_abs-mul a x)) (dvd-mul_right_of_dvd d h (unsigned_abs x))

module _ (target pivot : List ℤ) (at : ℕ) (lengths : length target ≡ length pivot) (positive : pos 0 <ℤ entry pivot at) where
  a : ℤ
  a = target_factor target pivot at

  b : ℤ
  b = pivot_factor target pivot at

  content : ℕ
  content = row_divisor (reduced_combination target pivot at)

  apart : row_divisor (a ∷ b ∷ []) ≡ 1
  unfolding a b
  apart = factors_apart target pivot at positive

  content_divides : (k : ℕ) → content ∣ unsigned_abs (a *ℤ entry target k -ℤ b *ℤ entry pivot k)
  unfolding a b content
  content_divides k =
      subst (λ z. content ∣ unsigned_abs z) (entry-combination a b target pivot k lengths) (Divides-entry content (reduced_combination target pivot at) k (row_divisor_is (reduced_combination target pivot at)).0)

  -- the content and the target's factor have no common divisor, where the pivot is primitive
  target_apart : primitive_row pivot ≡ pivot → row_divisor (pos content ∷ a ∷ []) ≡ 1
  target_apart primitive =
      let e = row_divisor (pos content ∷ a ∷ []) in
      let is = (row_divisor_is (pos content ∷ a ∷ [])).0 in
      let each : (k : ℕ) → e ∣ unsigned_abs (entry pivot k) = λ k.
      (let t = entry target k in
      let p = entry pivot k in
      let first = factor_divides e a t is.1.0 in
      let second = other_divides e (a *ℤ t) (b *ℤ p) first (dvd_trans e is.0 (content_divides k)) in
      without_common a b e (unsigned_abs p) apart (swapped_product e a p (factor_divides e a p is.1.0)) (swapped_product e b p second)) in
      let whole = (row_divisor_is pivot).1 e (Divides-from_entries e pivot each) in
      eq-one_of_dvd-one (subst (λ n. e ∣ n) (row_divisor-primitive pivot primitive (at, size-pos (entry pivot at) positive)) whole)

  -- the content and the pivot's factor have none, where the target is primitive
  pivot_apart : primitive_row target ≡ target → IsNonZeroRow target → row_divisor (pos content ∷ b ∷ []) ≡ 1
  pivot_apart primitive some =
      let e = row_divisor (pos content ∷ b ∷ []) in
      let is = (row_divisor_is (pos content ∷ b ∷ [])).0 in
      let each : (k : ℕ) → e ∣ unsigned_abs (entry target k) = λ k.
      (let t = entry target k in
      let p = entry pivot k in
      let second = factor_divides e b p is.1.0 in
      let first = first_divides e (a *ℤ t) (b *ℤ p) second (dvd_trans e is.0 (content_divides k)) in
      without_common a b e (unsigned_abs t) apart (swapped_product e a t first) (swapped_product e b t (factor_divides e b t is.1.0))) in
      let whole = (row_divisor_is target).1 e (Divides-from_entries e target each) in
      eq-one_of_dvd-one (subst (λ n. e ∣ n) (row_divisor-primitive target primitive some) whole)

  content-target : primitive_row pivot ≡ pivot → (column : ℕ) → entry pivot column ≡ pos 0 → content ∣ unsigned_abs (entry target column)
  content-target primitive column none =
      let t = entry target column in
      let product : content ∣ unsigned_abs (a *ℤ t) = subst (λ z. content ∣ unsigned_abs z) (ap (λ p. a *ℤ t -ℤ b *ℤ p) none ∙ ap (λ z. a *ℤ t -ℤ z) (*ℤ-zero b) ∙ +ℤ_idr (a *ℤ t)) (content_divides column) in
      without_common (pos content) a content (unsigned_abs t) (target_apart primitive) (dvd-mul_left content (unsigned_abs t)) (swapped_product content a t product)

  content-pivot : primitive_row target ≡ target → IsNonZeroRow target → (column : ℕ) → entry target column ≡ pos 0 → content ∣ unsigned_abs (entry pivot column)
  content-pivot primitive some column none =
      let p = entry pivot column in
      let zero_there : content ∣ unsigned_abs (a *ℤ entry target column) = subst (λ z. content ∣ unsigned_abs z) (sym (ap (λ t. a *ℤ t) none ∙ *ℤ-zero a)) (dvd-zero content) in
      let product = other_divides content (a *ℤ entry target column) (b *ℤ p) zero_there (content_divides column) in
      without_common (pos content) b content (unsigned_abs p) (pivot_apart primitive some) (dvd-mul_left content (unsigned_abs p)) (swapped_product content b p product)

pub content_divides_target : ContentDividesTarget
unfolding content
content_divides_target target pivot at column lengths positive primitive none = content-target target pivot at lengths positive primitive column none

pub content_divides_pivot : ContentDividesPivot
unfolding content
content_divides_pivot target pivot at column lengths positive primitive some none = content-pivot target pivot at lengths positive primitive some column none
