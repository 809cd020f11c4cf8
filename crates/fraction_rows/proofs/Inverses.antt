-- Inverses of odd numbers in the arithmetic of 64 and of 128 bits by Newton's method, and exact division by them.
use Rattle.std.proofs.Common.{subst, ◌≡◌, ℕ, zero, suc, ◌+◌, ◌-◌, ◌*◌, ◌/◌, ◌%◌, ◌^◌, ◌<◌, ◌≤◌, ℤ, pos, negsuc, ◌+ℤ◌, ◌-ℤ◌, ◌*ℤ◌, ◌<ℤ◌, neg_ℤ, unsigned_abs, refl, sym, ap, ap₂, ◌∙◌, arith, lt_of_le_of_lt, lit<}
use Rattle.std.specs.Int.{◌∣◌, w64, w128, cast_signed, int_wrap}
use mir.Syntax.{Width}
use mir.Val.{SFits, bits}
use Rattle.std.proofs.lemmas.Int.{ints, int_wrap_fits, int_wrap-mul_left, int_wrap-mul_right, int_wrap-sub_right, wrapping_mul-bits, wrapping_sub-bits, fits_signed_from_abs, unsigned_abs-mul}
use Rattle.std.proofs.lemmas.Nat.{pow-add, le-div}
use Rattle.std.proofs.Math.IntN.{*ℤ_comm, zero-*ℤ}
use Rattle.std.proofs.Math.Nat.{mul-div_cancel_left, pow-suc, mod-lt, dvd-mul_left}
use lib.Arith.{digits_div}
use lib.Count.{count_trailing_zeros, under}
use lib.Pow.{pow_pos}
use lib.Signed.{shr_z}
use Rattle.row_definitions.specs.Rows.{divided}
use Rattle.row_definitions.specs.Combination.{FitsEntry}
use Rattle.row_definitions.proofs.Numbers.{divided-exact, one-*ℤ, *ℤ-+ℤ, *ℤ--ℤ, *ℤ_assoc, *ℤ_swap, unsigned_abs-divided-le}
use Rattle.row_definitions.proofs.Combinations.{size-pos}
use Rattle.fraction_rows.specs.Exact.{HasInverse}

-- ---- the odd part

twice_first : (p m : ℕ) → p * m * 2 ≡ p * 2 * m
twice_first p m = omega arith

by_digit : (n r t : ℕ) → n % 2 ≡ r → 0 < n → (0 < n / 2 → (half : ℕ) × (n / 2 ≡ 2 ^ t * (1 + 2 * half))) → (half : ℕ) × (n ≡ 2 ^ under r t * (1 + 2 * half))
by_digit n zero t even positive rest =
    let h = rest (omega arith) in
    let twice : n ≡ n / 2 * 2 = omega arith in
    (h.0, twice ∙ ap (λ m. m * 2) h.1 ∙ twice_first (2 ^ t) (1 + 2 * h.0) ∙ ap (λ p. p * (1 + 2 * h.0)) (sym (pow-suc 2 t)))
by_digit n (suc r) t odd positive rest = (n / 2, omega arith)

-- a number above 0 is a power of two, by its trailing zeros, times an odd number
pub odd_part : (digits n : ℕ) → 0 < n → n < 2 ^ digits → (half : ℕ) × (n ≡ 2 ^ count_trailing_zeros digits n * (1 + 2 * half))
unfolding count_trailing_zeros
odd_part zero n positive below = absurd (omega arith)
odd_part (suc digits) n positive below = by_digit n (n % 2) (count_trailing_zeros digits (n / 2)) refl positive (λ some. odd_part digits (n / 2) some (omega (arith, pow-suc 2 digits)))

-- a shift takes a power of two away
shifted : (m : ℕ) (z : ℤ) → 0 < m → shr_z (pos m *ℤ z) m ≡ z
shifted m (pos n) some = ap pos (mul-div_cancel_left n some)
shifted m (negsuc n) some =
    let size : m * suc n ≡ suc (n * m + (m - 1)) = omega arith in
    ap (λ k. shr_z (neg_ℤ (pos k)) m) size ∙ ap negsuc (digits_div n (omega arith))

-- ---- Newton's method

pub times-one : (z : ℤ) → z *ℤ pos 1 ≡ z
times-one z = *ℤ_comm z (pos 1) ∙ one-*ℤ z

square : (e : ℤ) → (pos 1 -ℤ e) *ℤ (pos 2 -ℤ (pos 1 -ℤ e)) ≡ pos 1 -ℤ e *ℤ e
square e =
    let f = pos 1 -ℤ e in
    let other : pos 2 -ℤ f ≡ pos 1 +ℤ e = omega (arith, ints) in
    let product : f *ℤ e ≡ e -ℤ e *ℤ e = *ℤ_comm f e ∙ *ℤ--ℤ e (pos 1) e ∙ ap (λ z. z -ℤ e *ℤ e) (times-one e) in
    ap (λ z. f *ℤ z) other ∙ *ℤ-+ℤ f (pos 1) e ∙ ap₂ (λ y z. y +ℤ z) (times-one f) product ∙ omega (arith, ints)

-- in the arithmetic of a width
module _ (w : Width) where
  -- what is left of `z * (2 - z)` depends on what is left of z alone
  through : (z : ℤ) → int_wrap w (int_wrap w z *ℤ (pos 2 -ℤ int_wrap w z)) ≡ int_wrap w (z *ℤ (pos 2 -ℤ z))
  through z =
      int_wrap-mul_left w z (pos 2 -ℤ int_wrap w z) ∙ sym (int_wrap-mul_right w z (pos 2 -ℤ int_wrap w z))
      ∙ ap (λ y. int_wrap w (z *ℤ y)) (int_wrap-sub_right w (pos 2) z) ∙ int_wrap-mul_right w z (pos 2 -ℤ z)

  -- a number that is 1 less some error becomes 1 less the error's square
  round : (u e : ℤ) → int_wrap w u ≡ int_wrap w (pos 1 -ℤ e) → int_wrap w (u *ℤ (pos 2 -ℤ u)) ≡ int_wrap w (pos 1 -ℤ e *ℤ e)
  round u e h = sym (through u) ∙ ap (λ y. int_wrap w (y *ℤ (pos 2 -ℤ y))) h ∙ through (pos 1 -ℤ e) ∙ ap (int_wrap w) (square e)

  -- twice as many of the lowest bits are right
  pub more_bits : (odd inverse k : ℤ) (i : ℕ) → int_wrap w (odd *ℤ inverse) ≡ int_wrap w (pos 1 -ℤ pos (2 ^ (2 ^ i)) *ℤ k)
      → int_wrap w (odd *ℤ int_wrap w (inverse *ℤ (pos 2 -ℤ odd *ℤ inverse))) ≡ int_wrap w (pos 1 -ℤ pos (2 ^ (2 ^ (i + 1))) *ℤ (k *ℤ k))
  more_bits odd inverse k i h =
      let p = pos (2 ^ (2 ^ i)) in
      let double : 2 ^ i + 2 ^ i ≡ 2 ^ (i + 1) = omega (arith, pow-add 2 i 1) in
      let powers : p *ℤ p ≡ pos (2 ^ (2 ^ (i + 1))) = ap pos (sym (pow-add 2 (2 ^ i) (2 ^ i)) ∙ ap (λ n. 2 ^ n) double) in
      int_wrap-mul_right w odd (inverse *ℤ (pos 2 -ℤ odd *ℤ inverse)) ∙ ap (int_wrap w) (sym (*ℤ_assoc odd inverse (pos 2 -ℤ odd *ℤ inverse))) ∙ round (odd *ℤ inverse) (p *ℤ k) h
      ∙ ap (λ e. int_wrap w (pos 1 -ℤ e)) (*ℤ_swap p k p k ∙ ap (λ q. q *ℤ (k *ℤ k)) powers)

  -- a round as the machine makes it, on bits
  pub round_on_bits : 2 < 2 ^ bits w → cast_signed w 2 ≡ pos 2 → (a b : ℕ) → a < 2 ^ bits w → b < 2 ^ bits w
      → cast_signed w ((b * ((2 + (2 ^ bits w - (a * b) % 2 ^ bits w)) % 2 ^ bits w)) % 2 ^ bits w) ≡ int_wrap w (cast_signed w b *ℤ (pos 2 -ℤ cast_signed w a *ℤ cast_signed w b))
  round_on_bits room two a b a_fits b_fits =
      let x = cast_signed w a in
      let y = cast_signed w b in
      let m = (a * b) % 2 ^ bits w in
      let k = (2 + (2 ^ bits w - m)) % 2 ^ bits w in
      let product : cast_signed w m ≡ int_wrap w (x *ℤ y) = wrapping_mul-bits w a b a_fits b_fits in
      let rest : cast_signed w k ≡ int_wrap w (pos 2 -ℤ x *ℤ y) =
      wrapping_sub-bits w 2 m (omega arith) (mod-lt (a * b) (omega arith)) ∙ ap₂ (λ y z. int_wrap w (y -ℤ z)) two product ∙ int_wrap-sub_right w (pos 2) (x *ℤ y) in
      wrapping_mul-bits w b k b_fits (mod-lt (2 + (2 ^ bits w - m)) (omega arith)) ∙ ap (λ z. int_wrap w (y *ℤ z)) rest ∙ int_wrap-mul_right w y (pos 2 -ℤ x *ℤ y)

  -- when the error is a multiple of what wraps to 0, all bits are right
  pub all_bits : (m : ℕ) (k : ℤ) → int_wrap w (pos m) ≡ pos 0 → int_wrap w (pos 0) ≡ pos 0 → int_wrap w (pos 1 -ℤ pos 0) ≡ pos 1 → int_wrap w (pos 1 -ℤ pos m *ℤ k) ≡ pos 1
  all_bits m k wraps zero_stays one_stays =
      let none : int_wrap w (pos m *ℤ k) ≡ pos 0 = sym (int_wrap-mul_left w (pos m) k) ∙ ap (λ z. int_wrap w (z *ℤ k)) wraps ∙ ap (int_wrap w) (zero-*ℤ k) ∙ zero_stays in
      sym (int_wrap-sub_right w (pos 1) (pos m *ℤ k)) ∙ ap (λ z. int_wrap w (pos 1 -ℤ z)) none ∙ one_stays

  -- ---- the quotient

  pub exact_quotient : (divisor twos : ℕ) (inverse x : ℤ) → HasInverse w divisor twos inverse → divisor ∣ unsigned_abs x → SFits w (divided divisor x) → int_wrap w (shr_z x (2 ^ twos) *ℤ inverse) ≡ divided divisor x
  exact_quotient divisor twos inverse x inverted divides y_fits =
      let y = divided divisor x in
      let odd = pos (divisor / 2 ^ twos) in
      let whole : x ≡ pos (2 ^ twos) *ℤ (odd *ℤ y) = sym (divided-exact divisor x divides) ∙ ap (λ d. pos d *ℤ y) inverted.is ∙ *ℤ_assoc (pos (2 ^ twos)) odd y in
      let shift : shr_z x (2 ^ twos) ≡ odd *ℤ y = ap (λ z. shr_z z (2 ^ twos)) whole ∙ shifted (2 ^ twos) (odd *ℤ y) (pow_pos twos) in
      let regrouped : (odd *ℤ y) *ℤ inverse ≡ y *ℤ (odd *ℤ inverse) = ap (λ z. z *ℤ inverse) (*ℤ_comm odd y) ∙ *ℤ_assoc y odd inverse in
      ap (λ z. int_wrap w (z *ℤ inverse)) shift ∙ ap (int_wrap w) regrouped ∙ sym (int_wrap-mul_right w y (odd *ℤ inverse))
      ∙ ap (λ z. int_wrap w (y *ℤ z)) inverted.unit ∙ ap (int_wrap w) (times-one y) ∙ int_wrap_fits w y y_fits

-- what seven rounds and six leave
pub all_wide_bits : (k : ℤ) → int_wrap w128 (pos 1 -ℤ pos (2 ^ (2 ^ 7)) *ℤ k) ≡ pos 1
unfolding int_wrap
all_wide_bits k = all_bits w128 (2 ^ (2 ^ 7)) k refl refl refl

pub all_narrow_bits : (k : ℤ) → int_wrap w64 (pos 1 -ℤ pos (2 ^ (2 ^ 6)) *ℤ k) ≡ pos 1
unfolding int_wrap
all_narrow_bits k = all_bits w64 (2 ^ (2 ^ 6)) k refl refl refl

-- a factor divides a product
pub divides_product : (d q x : ℤ) → q *ℤ d ≡ x → unsigned_abs d ∣ unsigned_abs x
divides_product d q x is = subst (λ n. unsigned_abs d ∣ n) (sym (unsigned_abs-mul q d) ∙ ap unsigned_abs is) (dvd-mul_left (unsigned_abs d) (unsigned_abs q))

-- a number above 0 is its size
sized : (d : ℤ) → pos 0 <ℤ d → pos (unsigned_abs d) ≡ d
sized (pos n) above = refl
sized (negsuc n) above = absurd (omega (arith, ints))

-- the quotient times the divisor
pub multiplied_back : (d x : ℤ) → pos 0 <ℤ d → unsigned_abs d ∣ unsigned_abs x → divided (unsigned_abs d) x *ℤ d ≡ x
multiplied_back d x above divides =
    *ℤ_comm (divided (unsigned_abs d) x) d ∙ ap (λ e. e *ℤ divided (unsigned_abs d) x) (sym (sized d above)) ∙ divided-exact (unsigned_abs d) x divides

-- no quotient of an entry is larger than that of the largest
pub quotient-le : (d x : ℤ) → pos 0 <ℤ d → unsigned_abs d ∣ unsigned_abs x → FitsEntry x → unsigned_abs (divided (unsigned_abs d) x) ≤ (2 ^ 127 - 1) / unsigned_abs d
quotient-le d x above divides fits =
    let y = divided (unsigned_abs d) x in
    let size : unsigned_abs y * unsigned_abs d ≡ unsigned_abs x = sym (unsigned_abs-mul y d) ∙ ap unsigned_abs (multiplied_back d x above divides) in
    le-div (unsigned_abs y) (2 ^ 127 - 1) (unsigned_abs d) (size-pos d above) (omega arith)

-- a number of 64 bits in 128
pub size-le : (z : ℤ) → SFits w64 z → unsigned_abs z ≤ 2 ^ 63
size-le z fits = omega (arith, ints)

pub to_wide : (z : ℤ) → SFits w64 z → SFits w128 z
to_wide z fits = fits_signed_from_abs w128 z (lt_of_le_of_lt (size-le z fits) (lit< tt))
