use Rattle.row_definitions.proofs.Combinations.{combined_is_plain, combined_of_kept_forms, entry-combined, combined-zero, fits-zero, IsPositiveMultiple-combined, FitsEntry-reduced_combination}
use Rattle.row_definitions.proofs.Primitives.{FitsEntry-primitive_row}
use Rattle.row_definitions.specs.Combination.{reduced_combination}
use Rattle.row_definitions.proofs.combination_law.Goals as goal

pub returns-clause-entries_divided_first : goal.returns-clause-entries_divided_first
returns-clause-entries_divided_first c = combined_is_plain

pub returns-clause-kept_forms : goal.returns-clause-kept_forms
returns-clause-kept_forms c = combined_of_kept_forms

pub returns-clause-zero_there : goal.returns-clause-zero_there
returns-clause-zero_there c = entry-combined

pub returns-clause-zero_there_stays : goal.returns-clause-zero_there_stays
returns-clause-zero_there_stays c = combined-zero

pub returns-clause-zero_there_fits : goal.returns-clause-zero_there_fits
returns-clause-zero_there_fits c = fits-zero

pub returns-clause-direction : goal.returns-clause-direction
returns-clause-direction c = IsPositiveMultiple-combined

pub returns-clause-fits : goal.returns-clause-fits
returns-clause-fits c target pivot at e h =
    FitsEntry-primitive_row (reduced_combination target pivot at) (FitsEntry-reduced_combination target pivot at e h)
