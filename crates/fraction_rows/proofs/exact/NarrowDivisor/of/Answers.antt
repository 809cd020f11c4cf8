use Rattle.std.proofs.Common.{subst, ◌≡◌, ℕ, ◌*◌, ◌+◌, ◌-◌, ◌/◌, ◌^◌, ◌<◌, pos, ◌*ℤ◌, ◌<ℤ◌, ap, sym, ◌∙◌, arith, SFits, unsigned_abs, of_z, to_z, to_z-of_z, rules, div-le_self, lt_of_le_of_lt}
use Rattle.std.specs.Int.{w64, int_wrap}
use Rattle.std.proofs.lemmas.Int.{to_z_pos}
use Rattle.std.proofs.Math.Nat.{mul-div_cancel_left}
use lib.Count.{count_trailing_zeros}
use lib.Pow.{pow_pos}
use Rattle.row_definitions.proofs.Numbers.{above_zero}
use Rattle.fraction_rows.specs.Exact.{HasInverse}
use Rattle.fraction_rows.proofs.Inverses.{odd_part}
use Rattle.fraction_rows.proofs.exact.NarrowDivisor.of.Goals as goal

-- the odd part of a divisor, and that it is odd
power : ℕ → ℕ
power n = 2 ^ count_trailing_zeros 64 n

module _ (n : ℕ) (positive : 0 < n) (fits : n < 2 ^ 63) where
  part : (half : ℕ) × (n ≡ power n * (1 + 2 * half))
  unfolding power
  part = odd_part 64 n positive (omega arith)

  odd_is : n / power n ≡ 1 + 2 * part.0
  unfolding power
  odd_is = ap (λ k. k / power n) part.1 ∙ mul-div_cancel_left (1 + 2 * part.0) (pow_pos (count_trailing_zeros 64 n))

  whole : n ≡ power n * (n / power n)
  whole = part.1 ∙ ap (λ m. power n * m) (sym odd_is)

  signed : to_z w64 (n / power n) ≡ pos (n / power n)
  signed = to_z_pos w64 (n / power n) (lt_of_le_of_lt (div-le_self n (power n)) fits)

pub narrow_inverse_of-requires : goal.narrow_inverse_of-requires
unfolding power
narrow_inverse_of-requires c =
    let n = c.args.divisor in
    (pos (part n c.requires.positive c.requires.fits).0, signed n c.requires.positive c.requires.fits ∙ ap pos (odd_is n c.requires.positive c.requires.fits))

pub returns : goal.returns
returns c = ap unsigned_abs (to_z_pos w64 c.args.divisor c.requires.fits)

pub invariant_of-result-clause-positive : goal.invariant_of-result-clause-positive
invariant_of-result-clause-positive c =
    subst (λ z. pos 0 <ℤ z) (sym (to_z_pos w64 c.args.divisor c.requires.fits)) (above_zero c.args.divisor c.requires.positive)

pub invariant_of-result-clause-inverted : goal.invariant_of-result-clause-inverted
unfolding power
invariant_of-result-clause-inverted c =
    let n = c.args.divisor in
    let inverse_fits : SFits w64 c.narrow_inverse_of.result = search rules in
    subst (λ m. HasInverse w64 m (count_trailing_zeros 64 n) (to_z w64 (of_z w64 c.narrow_inverse_of.result))) (sym (ap unsigned_abs (to_z_pos w64 n c.requires.fits))) (record {
      is = whole n c.requires.positive c.requires.fits;
      unit = ap (λ z. int_wrap w64 (pos (n / power n) *ℤ z)) (to_z-of_z inverse_fits) ∙ ap (λ z. int_wrap w64 (z *ℤ c.narrow_inverse_of.result)) (sym (signed n c.requires.positive c.requires.fits)) ∙ c.narrow_inverse_of.ensures;
    })
