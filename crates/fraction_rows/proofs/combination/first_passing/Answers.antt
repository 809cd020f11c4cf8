use Rattle.std.proofs.Common.{◌<◌, length, ℕ, List, All, ℤ, ◌*ℤ◌, SFits, of_z, to_z, subst, to_z-of_z, below_more, rules, arith}
use Rattle.std.specs.Int.{w128}
use Rattle.row_definitions.specs.Rows.{entry}
use Rattle.row_definitions.specs.Combination.{FitsAt, PassesNowhere, column_divisor}
use Rattle.fraction_rows.specs.BitLengths.{HasBits}
use Rattle.fraction_rows.proofs.Columns.{fails_from_none, holds_from_some}
use Rattle.fraction_rows.proofs.ShortProducts.{short-passes_nowhere, quotient-short}
use Rattle.fraction_rows.proofs.combination.first_passing.Goals as goal

-- the products by the two entries of the column are short, and so are those by the factors
by_entries : (target pivot : List ℤ) (at j k : ℕ) → SFits w128 (entry pivot at) → SFits w128 (entry target at) → All (HasBits j) target → All (HasBits k) pivot
    → ((x : ℤ) → HasBits j x → HasBits 126 (to_z w128 (of_z w128 (entry pivot at)) *ℤ x))
    → ((x : ℤ) → HasBits k x → HasBits 126 (to_z w128 (of_z w128 (entry target at)) *ℤ x))
    → PassesNowhere target pivot at
by_entries target pivot at j k pivot_fits target_fits target_bits pivot_bits first second =
    let g = column_divisor target pivot at in
    short-passes_nowhere target pivot at j k target_bits pivot_bits
    (quotient-short g j 126 (entry pivot at) (subst (λ a. (x : ℤ) → HasBits j x → HasBits 126 (a *ℤ x)) (to_z-of_z pivot_fits) first))
    (quotient-short g k 126 (entry target at) (subst (λ a. (x : ℤ) → HasBits k x → HasBits 126 (a *ℤ x)) (to_z-of_z target_fits) second))

pub returns-then-products_are_short-2-clause-nowhere : goal.returns-then-products_are_short-2-clause-nowhere
returns-then-products_are_short-2-clause-nowhere c =
    let target = c.args.target.now in
    let pivot = c.args.pivot.now in
    let at = c.args.at in
    let in_pivot : at < length pivot = omega arith in
    let in_target : at < length target = c.requires.combinable.within in
    let pivot_fits : SFits w128 (entry pivot at) = search rules in
    let target_fits : SFits w128 (entry target at) = search rules in
    by_entries target pivot at c.args.target_bits c.args.pivot_bits pivot_fits target_fits c.requires.target_bits c.requires.pivot_bits
    (c.products_are_short.ensures.product c.if-products_are_short.true) (c.products_are_short-then-products_are_short.ensures.product c.if-products_are_short-2.true)

pub returns-then-products_are_short-4-clause-nowhere : goal.returns-then-products_are_short-4-clause-nowhere
returns-then-products_are_short-4-clause-nowhere c =
    let first : SFits w128 c.factors_of-factors.result.target = search rules in
    let second : SFits w128 c.factors_of-factors.result.pivot = search rules in
    let target_short = subst (λ a. (x : ℤ) → HasBits c.args.target_bits x → HasBits 126 (a *ℤ x)) (to_z-of_z first) (c.products_are_short-2.ensures.product c.if-products_are_short-3.true) in
    let pivot_short = subst (λ a. (x : ℤ) → HasBits c.args.pivot_bits x → HasBits 126 (a *ℤ x)) (to_z-of_z second) (c.products_are_short-then-products_are_short-3.ensures.product c.if-products_are_short-4.true) in
    short-passes_nowhere c.args.target.now c.args.pivot.now c.args.at c.args.target_bits c.args.pivot_bits c.requires.target_bits c.requires.pivot_bits
    (subst (λ a. (x : ℤ) → HasBits c.args.target_bits x → HasBits 126 (a *ℤ x)) c.factors_of-factors.ensures.target target_short)
    (subst (λ a. (x : ℤ) → HasBits c.args.pivot_bits x → HasBits 126 (a *ℤ x)) c.factors_of-factors.ensures.pivot pivot_short)

pub returns-then-is_none-clause-first : goal.returns-then-is_none-clause-first
returns-then-is_none-clause-first c =
    let column = c.loop-column.column in
    let in_pivot : column < length c.args.pivot.now = omega arith in
    let t : SFits w128 (entry c.args.target.now column) = search rules in
    let p : SFits w128 (entry c.args.pivot.now column) = search rules in
    let says = simp (to_z-of_z, c.factors_of-factors.ensures.target, c.factors_of-factors.ensures.pivot) at c.checked_entry.ensures in
    record {
      within = c.loop-column-test.true;
      passes = fails_from_none c.checked_entry.result _ says c.if-is_none.ensures;
      fits_before = c.loop-column.invariant;
    }

pub loop-column-preserved : goal.loop-column-preserved
loop-column-preserved c =
    let column = c.loop-column.column in
    let in_pivot : column < length c.args.pivot.now = omega arith in
    let t : SFits w128 (entry c.args.target.now column) = search rules in
    let p : SFits w128 (entry c.args.pivot.now column) = search rules in
    let says = simp (to_z-of_z, c.factors_of-factors.ensures.target, c.factors_of-factors.ensures.pivot) at c.checked_entry.ensures in
    below_more (FitsAt c.args.target.now c.args.pivot.now c.args.at) _ c.loop-column.invariant (holds_from_some c.checked_entry.result _ says c.if-is_none.ensures)

pub returns-clause-nowhere : goal.returns-clause-nowhere
returns-clause-nowhere c column below = c.loop-column.invariant column (omega arith)
