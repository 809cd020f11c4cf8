use Rattle.std.proofs.Common.{◌≡◌, ℕ, length, ap, subst, arith, pos, ℤ}
use Rattle.std.specs.Prelude.{slice_index_or, unsigned_abs}
use Rattle.std.proofs.lemmas.List.{length-map, get_or-map}
use Rattle.coherence_lp.specs.declared.ratio.Ratio.{Ratio}
use Rattle.coherence_lp.proofs.Divisors.{IsGcdBelow, gcd_more, gcd_row}
use Rattle.coherence_lp.proofs.StakeLists.{any_ratio, numerators}
use Rattle.coherence_lp.proofs.items.numerator_divisor.Goals as goal

pub loop-i-preserved : goal.loop-i-preserved
loop-i-preserved c = gcd_more (λ i. (slice_index_or c.args.ratios.now i any_ratio).numerator) c.loop-i.i c.common_divisor-divisor.result c.loop-i.divisor c.loop-i.invariant c.common_divisor-divisor.ensures

pub returns : goal.returns
returns c =
    let ratios = c.args.ratios.now in
    let n = length ratios in
    let whole : c.loop-i.i ≡ n = omega arith in
    let sizes : ℕ → ℕ = λ i. (slice_index_or ratios i any_ratio).numerator in
    let f : Ratio → ℤ = λ r. pos r.numerator in
    gcd_row (numerators ratios) sizes n c.loop-i.divisor (length-map ratios f)
    (λ k h. ap unsigned_abs (get_or-map f ratios k any_ratio (pos 0) h))
    (let P : ℕ → Type 0 = λ k. IsGcdBelow sizes k c.loop-i.divisor in subst P whole c.loop-i.invariant)
