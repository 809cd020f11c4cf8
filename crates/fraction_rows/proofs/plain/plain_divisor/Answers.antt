use Rattle.std.proofs.Common.{pos, unsigned_abs, ap, subst, ◌∙◌, SFits, to_z-of_z, rules}
use Rattle.std.specs.Int.{w128, IsGcd}
use Rattle.std.proofs.lemmas.Int.{to_z_pos, fits_signed_from_abs}
use Rattle.row_definitions.specs.Rows.{entry}
use Rattle.fraction_rows.proofs.Scan.{IsRowGcd-more, IsRowGcd-lt, row_divisor-all}
use Rattle.fraction_rows.proofs.plain.plain_divisor.Goals as goal

pub loop-x-preserved : goal.loop-x-preserved
loop-x-preserved c =
    let row = c.args.row.now in
    let i = c.loop-x.x-index in
    let g = c.euclid-divisor.result in
    let x_fits : SFits w128 (entry row i) = search rules in
    let size = c.unsigned_abs.ensures.value ∙ ap unsigned_abs (to_z-of_z x_fits) in
    IsRowGcd-more row i g c.loop-x.divisor c.loop-x-test.true c.loop-x.invariant (subst (λ n. IsGcd n c.loop-x.divisor g) size c.euclid-divisor.ensures)

pub overflow_cast-result : goal.overflow_cast-result
overflow_cast-result c = fits_signed_from_abs w128 (pos c.loop-x.divisor) (IsRowGcd-lt c.args.row.now c.loop-x.x-index c.loop-x.divisor c.requires c.loop-x.invariant)

pub returns : goal.returns
returns c =
    to_z_pos w128 c.loop-x.divisor (IsRowGcd-lt c.args.row.now c.loop-x.x-index c.loop-x.divisor c.requires c.loop-x.invariant)
    ∙ ap pos (row_divisor-all c.args.row.now c.loop-x.x-index c.loop-x.divisor c.loop-x.invariant c.loop-x-test.false)
