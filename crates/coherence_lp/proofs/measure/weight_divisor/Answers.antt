use Rattle.std.proofs.Common.{◌≡◌, ◌∙◌, ℕ, map, ap, subst, arith, SFits, to_z-of_z, rules, pos}
use Rattle.std.specs.Prelude.{unsigned_abs}
use Rattle.std.specs.Int.{w128, IsGcd}
use Rattle.std.specs.List.{range_with_len}
use Rattle.std.proofs.lemmas.List.FromFn.{length-map-range_with_len, get_or-map-range_with_len}
use Rattle.pivot_definitions.specs.Tableaus.{multiplier_of}
use Rattle.coherence_lp.proofs.Divisors.{IsGcdBelow, gcd_more, gcd_row}
use Rattle.coherence_lp.proofs.measure.weight_divisor.Goals as goal

pub loop-row-preserved : goal.loop-row-preserved
loop-row-preserved c =
    let f : SFits w128 c.multiplier.result = search rules in
    let size = c.unsigned_abs.ensures.value ∙ ap unsigned_abs (to_z-of_z f ∙ c.multiplier.ensures) in
    let P : ℕ → Type 0 = λ n. IsGcd n c.loop-row.divisor c.common_divisor-divisor.result in
    gcd_more (λ row. unsigned_abs (multiplier_of c.args.tableau.now row)) c.loop-row.row c.common_divisor-divisor.result c.loop-row.divisor c.loop-row.invariant (subst P size c.common_divisor-divisor.ensures)

pub returns : goal.returns
returns c =
    let t = c.args.tableau.now in
    let n = c.args.count in
    let whole : c.loop-row.row ≡ n = omega arith in
    let sizes : ℕ → ℕ = λ row. unsigned_abs (multiplier_of t row) in
    gcd_row (map (multiplier_of t) (range_with_len 0 n)) sizes n c.loop-row.divisor (length-map-range_with_len (multiplier_of t) 0 n)
    (λ k h. ap unsigned_abs (get_or-map-range_with_len (multiplier_of t) 0 n k k (pos 0) h (omega arith)))
    (let P : ℕ → Type 0 = λ k. IsGcdBelow sizes k c.loop-row.divisor in subst P whole c.loop-row.invariant)
