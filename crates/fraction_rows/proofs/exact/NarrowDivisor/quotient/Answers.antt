use Rattle.std.proofs.Common.{◌≡◌, ◌≤◌, ◌*◌, ◌%◌, ◌^◌, ◌*ℤ◌, ℤ, ap, ap₂, of_z, to_z, subst, sym, ◌∙◌, unsigned_abs, lt_of_le_of_lt, lit<, SFits, to_z-of_z, rules, arith}
use Rattle.std.specs.Int.{◌∣◌, w64, w128, int_wrapping_mul}
use Rattle.std.proofs.lemmas.Int.{fits_signed_from_abs, fits_signed_mul, wrapping_mul_is}
use lib.Signed.{shr_z}
use Rattle.row_definitions.specs.Rows.{divided}
use Rattle.row_definitions.proofs.Numbers.{unsigned_abs-divided-le}
use Rattle.fraction_rows.specs.declared.exact.NarrowDivisor.{NarrowDivisor}
use Rattle.fraction_rows.proofs.Inverses.{size-le, to_wide, exact_quotient, divides_product, multiplied_back}
use Rattle.fraction_rows.proofs.exact.NarrowDivisor.quotient.Goals as goal

-- the product as the machine makes it
abbrev product : NarrowDivisor → ℤ → ℤ
product s x = to_z w64 (of_z w64 (shr_z (to_z w64 (of_z w64 x)) (2 ^ s.twos)) * of_z w64 s.inverse % 2 ^ 64)

product_wide : (q d : ℤ) → SFits w64 q → SFits w64 d → SFits w128 (q *ℤ d)
product_wide q d q_fits d_fits = fits_signed_mul w128 q d (2 ^ 63) (2 ^ 63) (size-le q q_fits) (size-le d d_fits) (lit< tt)

product_is : (s : NarrowDivisor) (x : ℤ) → SFits w64 (divided (unsigned_abs s.divisor) x) → SFits w64 x → SFits w64 s.inverse → SFits w64 (shr_z x (2 ^ s.twos)) → unsigned_abs s.divisor ∣ unsigned_abs x → product s x ≡ divided (unsigned_abs s.divisor) x
product_is s x y_fits x_fits inverse_fits shift_fits divides =
    ap (λ z. int_wrapping_mul w64 (shr_z z (2 ^ s.twos)) s.inverse) (to_z-of_z x_fits) ∙ wrapping_mul_is w64 (shr_z x (2 ^ s.twos)) s.inverse shift_fits inverse_fits
    ∙ exact_quotient w64 (unsigned_abs s.divisor) s.twos s.inverse x s.inverted divides y_fits

pub overflow_mul-quotient : goal.overflow_mul-quotient
overflow_mul-quotient c =
    let s = c.args.self in
    let d_fits : SFits w64 s.divisor = search rules in
    let q_fits : SFits w64 (product s c.args.x) = search rules in
    let d_wide = to_wide s.divisor d_fits in
    let q_wide = to_wide (product s c.args.x) q_fits in
    simp to_z-of_z (product_wide (product s c.args.x) s.divisor q_fits d_fits)

-- the test of the code, over the numbers
test_is : (q d : ℤ) → SFits w64 q → SFits w64 d → to_z w128 (of_z w128 (to_z w128 (of_z w128 q) *ℤ to_z w128 (of_z w128 (to_z w64 (of_z w64 d))))) ≡ q *ℤ d
test_is q d q_fits d_fits =
    ap₂ (λ y z. to_z w128 (of_z w128 (y *ℤ z))) (to_z-of_z (to_wide q q_fits)) (ap (λ z. to_z w128 (of_z w128 z)) (to_z-of_z d_fits) ∙ to_z-of_z (to_wide d d_fits))
    ∙ to_z-of_z (product_wide q d q_fits d_fits)

pub returns-then-quotient-self : goal.returns-then-quotient-self
returns-then-quotient-self c =
    let s = c.args.self in
    let x = c.args.x in
    let d_fits : SFits w64 s.divisor = search rules in
    let inverse_fits : SFits w64 s.inverse = search rules in
    let shift_fits : SFits w64 (shr_z x (2 ^ s.twos)) = search rules in
    let q_fits : SFits w64 (product s x) = search rules in
    let y_fits = fits_signed_from_abs w64 (divided (unsigned_abs s.divisor) x) (lt_of_le_of_lt (unsigned_abs-divided-le (unsigned_abs s.divisor) x) c.requires) in
    let x_wide = to_wide x c.ranges.x in
    let back : product s x *ℤ s.divisor ≡ x = sym (test_is (product s x) s.divisor q_fits d_fits) ∙ ap (to_z w128) c.if-quotient-self.true ∙ ap (λ z. to_z w128 (of_z w128 z)) (to_z-of_z c.ranges.x) ∙ to_z-of_z x_wide in
    let divides = divides_product s.divisor (product s x) x back in
    (divides, product_is s x y_fits c.ranges.x inverse_fits shift_fits divides)

pub returns-else-quotient-self : goal.returns-else-quotient-self
returns-else-quotient-self c divides =
    let s = c.args.self in
    let x = c.args.x in
    let d_fits : SFits w64 s.divisor = search rules in
    let inverse_fits : SFits w64 s.inverse = search rules in
    let shift_fits : SFits w64 (shr_z x (2 ^ s.twos)) = search rules in
    let q_fits : SFits w64 (product s x) = search rules in
    let y_fits = fits_signed_from_abs w64 (divided (unsigned_abs s.divisor) x) (lt_of_le_of_lt (unsigned_abs-divided-le (unsigned_abs s.divisor) x) c.requires) in
    let is = product_is s x y_fits c.ranges.x inverse_fits shift_fits divides in
    let d_wide = to_wide s.divisor d_fits in
    let q_wide = to_wide (product s x) q_fits in
    let back : to_z w128 (of_z w128 (product s x)) *ℤ to_z w128 (of_z w128 (to_z w64 (of_z w64 s.divisor))) ≡ to_z w64 (of_z w64 x) = simp to_z-of_z (ap (λ y. y *ℤ s.divisor) is ∙ multiplied_back s.divisor x s.positive divides ∙ sym (to_z-of_z c.ranges.x)) in
    c.if-quotient-self.false (ap (of_z w128) back)
