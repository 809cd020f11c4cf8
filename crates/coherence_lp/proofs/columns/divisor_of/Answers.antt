use Rattle.std.proofs.Common.{◌≡◌, ℕ, List, ℤ, unsigned_abs, ap, subst, ◌∙◌, SFits, of_z, to_z, to_z-of_z, rules}
use Rattle.std.specs.Int.{w128, IsGcd}
use Rattle.std.proofs.Math.Nat.{dvd-zero}
use Rattle.row_definitions.specs.Rows.{entry}
use Rattle.fraction_rows.proofs.Scan.{IsRowGcd-more, row_divisor-all}
use Rattle.coherence_lp.proofs.columns.divisor_of.Goals as goal

-- the divisor of one more entry
step : (row : List ℤ) (i size d g : ℕ) → SFits w128 (entry row i) → size ≡ unsigned_abs (to_z w128 (of_z w128 (entry row i))) → IsGcd size d g → IsGcd (unsigned_abs (entry row i)) d g
step row i size d g fits is gcd = subst (λ n. IsGcd n d g) (is ∙ ap unsigned_abs (to_z-of_z fits)) gcd

pub loop-x-init : goal.loop-x-init
loop-x-init c = (tt, λ d w. dvd-zero d)

pub loop-x-preserved : goal.loop-x-preserved
loop-x-preserved c =
    let row = c.args.row.now in
    let i = c.loop-x.x-index in
    let d = c.loop-x.divisor in
    let g = c.common_divisor-divisor.result in
    let fits : SFits w128 (entry row i) = search rules in
    IsRowGcd-more row i g d c.loop-x-test.true c.loop-x.invariant (step row i c.unsigned_abs.result d g fits c.unsigned_abs.ensures.value c.common_divisor-divisor.ensures)

pub returns : goal.returns
returns c = row_divisor-all c.args.row.now c.loop-x.x-index c.loop-x.divisor c.loop-x.invariant c.loop-x-test.false
