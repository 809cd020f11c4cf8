use Rattle.std.proofs.Common.{◌≤◌, ◌<◌, ◌^◌, ◌<ℤ◌, pos, unsigned_abs, ap, subst, subst₂, sym, ◌∙◌, to_z-of_z, arith}
use Rattle.std.specs.Int.{w128, IsGcd}
use Rattle.std.proofs.lemmas.Int.{ints, to_z_pos, fits_signed_from_abs}
use Rattle.std.proofs.lemmas.Nat.Gcd.{le_of_dvd}
use Rattle.best_checker.proofs.LowestTerms.{divisor_above_zero}
use Rattle.best_checker.proofs.fractions.divisor_of.Goals as goal

greatest : (c : goal.After-common_divisor) → IsGcd (unsigned_abs c.args.top) (unsigned_abs c.args.bottom) c.common_divisor.result
greatest c =
    let g = c.common_divisor.result in
    let first = c.unsigned_abs.ensures.value ∙ ap unsigned_abs (to_z-of_z c.ranges.top) in
    let second = c.unsigned_abs-2.ensures.value ∙ ap unsigned_abs (to_z-of_z c.ranges.bottom) in
    subst₂ (λ m n. IsGcd m n g) first second c.common_divisor.ensures

some : (c : goal.After-common_divisor) → 1 ≤ unsigned_abs c.args.bottom
some c = let positive : pos 0 <ℤ c.args.bottom = c.requires in omega (arith, ints, positive)

fits : (c : goal.After-common_divisor) → c.common_divisor.result < 2 ^ 127
fits c =
    let within = le_of_dvd (some c) (greatest c).1 in
    let positive : pos 0 <ℤ c.args.bottom = c.requires in
    let range = c.ranges.bottom.sfits in
    omega (arith, ints, within, positive, range)

pub overflow_cast-result : goal.overflow_cast-result
overflow_cast-result c = fits_signed_from_abs w128 (pos c.common_divisor.result) (fits c)

pub returns-clause-positive : goal.returns-clause-positive
returns-clause-positive c =
    let value = to_z_pos w128 c.common_divisor.result (fits c) in
    let above = divisor_above_zero (unsigned_abs c.args.top) (unsigned_abs c.args.bottom) c.common_divisor.result (some c) (greatest c) in
    subst (λ z. pos 0 <ℤ z) (sym value) (omega (arith, ints, above))

pub returns-clause-greatest : goal.returns-clause-greatest
returns-clause-greatest c =
    subst (λ z. IsGcd (unsigned_abs c.args.top) (unsigned_abs c.args.bottom) (unsigned_abs z)) (sym (to_z_pos w128 c.common_divisor.result (fits c))) (greatest c)
