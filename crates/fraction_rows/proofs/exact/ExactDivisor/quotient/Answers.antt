use Rattle.std.proofs.Common.{◌≡◌, ◌≤◌, ◌<◌, ◌-◌, ◌*◌, ◌%◌, ◌^◌, ◌*ℤ◌, ℤ, ap, of_z, to_z, subst, sym, ◌∙◌, unsigned_abs, le_refl, lt_of_le_of_lt, SFits, to_z-of_z, rules, arith}
use Rattle.std.specs.Int.{◌∣◌, w128, int_wrapping_mul}
use Rattle.std.proofs.lemmas.Int.{fits_signed_mul, fits_signed_from_abs, wrapping_mul_is}
use Rattle.std.proofs.Math.Nat.{div-mul-le_self}
use lib.Signed.{shr_z}
use Rattle.row_definitions.specs.Rows.{divided}
use Rattle.row_definitions.specs.Combination.{FitsEntry}
use Rattle.row_definitions.proofs.Numbers.{unsigned_abs-divided-le}
use Rattle.fraction_rows.specs.declared.exact.ExactDivisor.{ExactDivisor}
use Rattle.fraction_rows.proofs.Inverses.{exact_quotient, divides_product, multiplied_back, quotient-le}
use Rattle.fraction_rows.proofs.exact.ExactDivisor.quotient.Goals as goal
use Rattle.fraction_rows.proofs.exact.ExactDivisor.quotient.Goals.{else-unsigned_abs-self-via-then-unsigned_abs-self+else-quotient-self, else-unsigned_abs-self-via-else-unsigned_abs-self}

-- the product as the machine makes it
abbrev product : ExactDivisor → ℤ → ℤ
product s x = to_z w128 (of_z w128 (shr_z (to_z w128 (of_z w128 x)) (2 ^ s.twos)) * of_z w128 s.inverse % 2 ^ 128)

product_is : (s : ExactDivisor) (x : ℤ) → FitsEntry x → SFits w128 x → SFits w128 s.inverse → SFits w128 (shr_z x (2 ^ s.twos)) → unsigned_abs s.divisor ∣ unsigned_abs x → product s x ≡ divided (unsigned_abs s.divisor) x
product_is s x fits x_fits inverse_fits shift_fits divides =
    ap (λ z. int_wrapping_mul w128 (shr_z z (2 ^ s.twos)) s.inverse) (to_z-of_z x_fits) ∙ wrapping_mul_is w128 (shr_z x (2 ^ s.twos)) s.inverse shift_fits inverse_fits
    ∙ exact_quotient w128 (unsigned_abs s.divisor) s.twos s.inverse x s.inverted divides (fits_signed_from_abs w128 (divided (unsigned_abs s.divisor) x) (lt_of_le_of_lt (unsigned_abs-divided-le (unsigned_abs s.divisor) x) fits))

product_fits : (s : ExactDivisor) (x : ℤ) → unsigned_abs (product s x) ≤ s.largest → SFits w128 (product s x *ℤ s.divisor)
product_fits s x small =
    let within : s.largest * unsigned_abs s.divisor < 2 ^ 127 = subst (λ n. n * unsigned_abs s.divisor < 2 ^ 127) (sym s.whole) (omega (arith, div-mul-le_self (2 ^ 127 - 1) (unsigned_abs s.divisor))) in
    fits_signed_mul w128 (product s x) s.divisor s.largest (unsigned_abs s.divisor) small (le_refl (unsigned_abs s.divisor)) within

pub overflow_mul-quotient : goal.overflow_mul-quotient
overflow_mul-quotient c =
    let s = c.args.self in
    let d_fits : SFits w128 s.divisor = search rules in
    let small = subst (λ n. n ≤ s.largest) c.unsigned_abs.ensures.value c.if-unsigned_abs-self.true in
    subst (λ z. SFits w128 (product s c.args.x *ℤ z)) (sym (to_z-of_z d_fits)) (product_fits s c.args.x small)

pub returns-then-quotient-self : goal.returns-then-quotient-self
returns-then-quotient-self c =
    let s = c.args.self in
    let x = c.args.x in
    let d_fits : SFits w128 s.divisor = search rules in
    let inverse_fits : SFits w128 s.inverse = search rules in
    let shift_fits : SFits w128 (shr_z x (2 ^ s.twos)) = search rules in
    let small = subst (λ n. n ≤ s.largest) c.unsigned_abs.ensures.value c.if-unsigned_abs-self.true in
    let back : product s x *ℤ s.divisor ≡ x = sym (to_z-of_z (product_fits s x small)) ∙ ap (λ z. to_z w128 (of_z w128 (product s x *ℤ z))) (sym (to_z-of_z d_fits)) ∙ ap (to_z w128) c.if-quotient-self.true ∙ to_z-of_z c.ranges.x in
    let divides = divides_product s.divisor (product s x) x back in
    (divides, product_is s x c.requires c.ranges.x inverse_fits shift_fits divides)

pub returns-else-unsigned_abs-self : goal.returns-else-unsigned_abs-self
returns-else-unsigned_abs-self c divides =
    let s = c.args.self in
    let x = c.args.x in
    let d_fits : SFits w128 s.divisor = search rules in
    let inverse_fits : SFits w128 s.inverse = search rules in
    let shift_fits : SFits w128 (shr_z x (2 ^ s.twos)) = search rules in
    let is = product_is s x c.requires c.ranges.x inverse_fits shift_fits divides in
    let back : product s x *ℤ to_z w128 (of_z w128 s.divisor) ≡ x = ap (λ z. product s x *ℤ z) (to_z-of_z d_fits) ∙ ap (λ y. y *ℤ s.divisor) is ∙ multiplied_back s.divisor x s.positive divides in
    let small : unsigned_abs (divided (unsigned_abs s.divisor) x) ≤ s.largest = subst (λ n. unsigned_abs (divided (unsigned_abs s.divisor) x) ≤ n) (sym s.whole) (quotient-le s.divisor x s.positive divides c.requires) in
    let size : c.unsigned_abs.result ≡ unsigned_abs (divided (unsigned_abs s.divisor) x) = c.unsigned_abs.ensures.value ∙ ap unsigned_abs is in
    elim c.else-unsigned_abs-self.branch [
      | else-unsigned_abs-self-via-then-unsigned_abs-self+else-quotient-self w ↦ w.if-quotient-self.false (ap (of_z w128) back)
      | else-unsigned_abs-self-via-else-unsigned_abs-self w ↦ omega (arith, w.if-unsigned_abs-self.false)
    ]
