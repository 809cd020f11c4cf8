use Rattle.std.proofs.Common.{◌<◌, length, SFits, to_z-of_z, subst, sym, ◌↔◌, rules, arith}
use Rattle.std.specs.Prelude.{IsTrue}
use Rattle.row_definitions.specs.Combination.{FitsAt}
use Rattle.std.specs.Int.{w128}
use Rattle.row_definitions.specs.Rows.{entry}
use Rattle.fraction_rows.proofs.Columns.{fits_iff_some}
use Rattle.fraction_rows.proofs.combination.fits_at.Goals as goal

pub returns : goal.returns
returns c =
    let column = c.args.column in
    let in_pivot : column < length c.args.pivot.now = omega (arith, c.requires.column, c.requires.combinable.lengths) in
    let t : SFits w128 (entry c.args.target.now column) = search rules in
    let p : SFits w128 (entry c.args.pivot.now column) = search rules in
    let says = simp (to_z-of_z, c.factors_of-factors.ensures.target, c.factors_of-factors.ensures.pivot) at c.checked_entry.ensures in
    subst (λ b. IsTrue b ↔ FitsAt c.args.target.now c.args.pivot.now c.args.at column) (sym c.is_some.ensures) (fits_iff_some c.checked_entry.result _ says)
