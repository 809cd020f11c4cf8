use Rattle.std.proofs.Common.{◌≡◌, ℕ, ◌+◌, List, ℤ, unsigned_abs, ap, subst, sym, ◌∙◌, SFits, of_z, to_z, to_z-of_z, rules}
use Rattle.std.specs.Int.{◌∣◌, w128, IsGcd}
use Rattle.row_definitions.specs.Rows.{entry, row_divisor}
use Rattle.fraction_rows.proofs.Scan.{bounded-none, bounded-more, bounded-zero, bounded-first, bounded-all, bounded-lt, above_zero_at}
use Rattle.fraction_rows.proofs.divisor.divisor_of_first.Goals as goal

-- the divisor of one more entry
step : (row : List ℤ) (i size d g : ℕ) → SFits w128 (entry row i) → size ≡ unsigned_abs (to_z w128 (of_z w128 (entry row i))) → IsGcd size d g → IsGcd (unsigned_abs (entry row i)) d g
step row i size d g x_fits is gcd = subst (λ n. IsGcd n d g) (is ∙ ap unsigned_abs (to_z-of_z x_fits)) gcd

pub returns-then-bound-eq1-clause-multiple : goal.returns-then-bound-eq1-clause-multiple
returns-then-bound-eq1-clause-multiple c = subst (λ n. row_divisor c.args.row.now ∣ n) c.if-bound-eq1.true c.requires.bound

pub loop-x-init : goal.loop-x-init
loop-x-init c = bounded-none c.args.bound

pub loop-x-preserved-then-x-eq0 : goal.loop-x-preserved-then-x-eq0
loop-x-preserved-then-x-eq0 c =
    let x_fits : SFits w128 (entry c.args.row.now c.loop-x.x-index) = search rules in
    bounded-zero c.args.bound c.args.row.now c.loop-x.x-index c.loop-x.divisor c.loop-x-test.true c.loop-x.invariant (sym (to_z-of_z x_fits) ∙ ap (to_z w128) c.if-x-eq0.true)

pub returns-then-lower-divisor-clause-multiple : goal.returns-then-lower-divisor-clause-multiple
returns-then-lower-divisor-clause-multiple c =
    let row = c.args.row.now in
    let i = c.loop-x.x-index in
    let d = c.loop-x.divisor in
    let g = c.common_divisor-lower.result in
    let x_fits : SFits w128 (entry row i) = search rules in
    let gcd = step row i c.unsigned_abs.result d g x_fits c.unsigned_abs.ensures.value c.common_divisor-lower.ensures in
    bounded-first c.args.bound row (i + 1) g c.requires.bound (bounded-more c.args.bound row i g d c.loop-x-test.true c.loop-x.invariant gcd)

pub returns-then-lower-divisor-clause-fits : goal.returns-then-lower-divisor-clause-fits
returns-then-lower-divisor-clause-fits c =
    let row = c.args.row.now in
    let i = c.loop-x.x-index in
    let d = c.loop-x.divisor in
    let g = c.common_divisor-lower.result in
    let x_fits : SFits w128 (entry row i) = search rules in
    let gcd = step row i c.unsigned_abs.result d g x_fits c.unsigned_abs.ensures.value c.common_divisor-lower.ensures in
    bounded-lt c.args.bound row (i + 1) g c.requires.bound_fits c.requires.fits (bounded-more c.args.bound row i g d c.loop-x-test.true c.loop-x.invariant gcd)

pub returns-then-lower-divisor-clause-zeros : goal.returns-then-lower-divisor-clause-zeros
returns-then-lower-divisor-clause-zeros c none =
    let row = c.args.row.now in
    let i = c.loop-x.x-index in
    let d = c.loop-x.divisor in
    let g = c.common_divisor-lower.result in
    let x_fits : SFits w128 (entry row i) = search rules in
    let gcd = step row i c.unsigned_abs.result d g x_fits c.unsigned_abs.ensures.value c.common_divisor-lower.ensures in
    absurd (above_zero_at (entry row i) d g (λ zero_there. c.if-x-eq0.false (ap (of_z w128) zero_there)) gcd none)

pub loop-x-preserved : goal.loop-x-preserved
loop-x-preserved c =
    let row = c.args.row.now in
    let i = c.loop-x.x-index in
    let d = c.loop-x.divisor in
    let g = c.common_divisor-lower.result in
    let x_fits : SFits w128 (entry row i) = search rules in
    bounded-more c.args.bound row i g d c.loop-x-test.true c.loop-x.invariant (step row i c.unsigned_abs.result d g x_fits c.unsigned_abs.ensures.value c.common_divisor-lower.ensures)

pub returns-clause-multiple : goal.returns-clause-multiple
returns-clause-multiple c = bounded-first c.args.bound c.args.row.now c.loop-x.x-index c.loop-x.divisor c.requires.bound c.loop-x.invariant

pub returns-clause-fits : goal.returns-clause-fits
returns-clause-fits c = bounded-lt c.args.bound c.args.row.now c.loop-x.x-index c.loop-x.divisor c.requires.bound_fits c.requires.fits c.loop-x.invariant

pub returns-clause-zeros : goal.returns-clause-zeros
returns-clause-zeros c none = bounded-all c.args.bound c.args.row.now c.loop-x.x-index c.loop-x.divisor c.loop-x.invariant c.loop-x-test.false none
