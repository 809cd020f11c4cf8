use Rattle.std.proofs.Common.{◌<◌, length, SFits, to_z-of_z, below_more, rules, arith}
use Rattle.std.specs.Int.{w128}
use Rattle.row_definitions.specs.Rows.{entry}
use Rattle.row_definitions.specs.Combination.{FitsAt}
use Rattle.fraction_rows.proofs.Columns.{fails_from_none, holds_from_some}
use Rattle.fraction_rows.proofs.plain.plain_passing.Goals as goal

pub returns-then-is_none-clause-first : goal.returns-then-is_none-clause-first
returns-then-is_none-clause-first c =
    let column = c.loop-column.column in
    let in_pivot : column < length c.args.pivot.now = omega arith in
    let t : SFits w128 (entry c.args.target.now column) = search rules in
    let p : SFits w128 (entry c.args.pivot.now column) = search rules in
    let says = simp (to_z-of_z, c.plain_factors-factors.ensures.target, c.plain_factors-factors.ensures.pivot) at c.checked_entry.ensures in
    record {
      within = c.loop-column-test.true;
      passes = fails_from_none c.checked_entry.result _ says c.if-is_none.ensures;
      fits_before = c.loop-column.invariant;
    }

pub loop-column-preserved : goal.loop-column-preserved
loop-column-preserved c =
    let column = c.loop-column.column in
    let in_pivot : column < length c.args.pivot.now = omega arith in
    let t : SFits w128 (entry c.args.target.now column) = search rules in
    let p : SFits w128 (entry c.args.pivot.now column) = search rules in
    let says = simp (to_z-of_z, c.plain_factors-factors.ensures.target, c.plain_factors-factors.ensures.pivot) at c.checked_entry.ensures in
    below_more (FitsAt c.args.target.now c.args.pivot.now c.args.at) _ c.loop-column.invariant (holds_from_some c.checked_entry.result _ says c.if-is_none.ensures)

pub returns-clause-nowhere : goal.returns-clause-nowhere
returns-clause-nowhere c column below = c.loop-column.invariant column (omega arith)
