use Rattle.std.proofs.Common.{◌≡◌, ℕ, ◌<◌, length, List, ℤ, All, ap, ap₂, subst, subst₂, sym, ◌∙◌}
use Rattle.std.specs.Int.{◌∣◌}
use Rattle.row_definitions.specs.Rows.{entry, row_divisor, primitive_row, IsPositiveMultiple}
use Rattle.row_definitions.specs.Combination.{FitsEntry, ProductsFit, combination, plain_combination, reduced_combination}
use Rattle.row_definitions.proofs.Combinations.{IsPositiveMultiple-combined, FitsEntry-reduced_combination}
use Rattle.fraction_rows.proofs.combination.combine_within.Goals as goal

pub write_combination-bits-requires-clause-fits : goal.write_combination-bits-requires-clause-fits
write_combination-bits-requires-clause-fits c column within =
    subst₂ (λ a b. ProductsFit a b (entry c.args.target.now column) (entry c.args.pivot.now column)) (sym c.factors_of-factors.ensures.target) (sym c.factors_of-factors.ensures.pivot) (c.requires.passes_nowhere column within)

pub divide_by_content-requires-clause-fits : goal.divide_by_content-requires-clause-fits
divide_by_content-requires-clause-fits c =
    let is : c.write_combination-bits.new.target ≡ reduced_combination c.args.target.now c.args.pivot.now c.args.at = c.write_combination-bits.ensures.value ∙ ap₂ (λ a b. combination a b c.args.target.now c.args.pivot.now) c.factors_of-factors.ensures.target c.factors_of-factors.ensures.pivot in
    subst (All FitsEntry) (sym is) (FitsEntry-reduced_combination c.args.target.now c.args.pivot.now c.args.at c.requires.combinable.lengths c.requires.passes_nowhere)

pub divide_by_content-requires-clause-bound : goal.divide_by_content-requires-clause-bound
divide_by_content-requires-clause-bound c =
    let is : c.write_combination-bits.new.target ≡ reduced_combination c.args.target.now c.args.pivot.now c.args.at = c.write_combination-bits.ensures.value ∙ ap₂ (λ a b. combination a b c.args.target.now c.args.pivot.now) c.factors_of-factors.ensures.target c.factors_of-factors.ensures.pivot in
    subst (λ row. row_divisor row ∣ c.args.bound) (sym is) c.requires.bound

pub returns-clause-value : goal.returns-clause-value
returns-clause-value c =
    c.divide_by_content.ensures.value ∙ ap primitive_row (c.write_combination-bits.ensures.value ∙ ap₂ (λ a b. combination a b c.args.target.now c.args.pivot.now) c.factors_of-factors.ensures.target c.factors_of-factors.ensures.pivot)

pub returns-clause-multiple : goal.returns-clause-multiple
returns-clause-multiple c =
    let value = c.divide_by_content.ensures.value ∙ ap primitive_row (c.write_combination-bits.ensures.value ∙ ap₂ (λ a b. combination a b c.args.target.now c.args.pivot.now) c.factors_of-factors.ensures.target c.factors_of-factors.ensures.pivot) in
    subst (IsPositiveMultiple (plain_combination c.args.target.now c.args.pivot.now c.args.at)) (sym value) (IsPositiveMultiple-combined c.args.target.now c.args.pivot.now c.args.at c.requires.combinable.positive)
