use Rattle.condensed_laws.proofs.Shown.{lent_row_is_like_whole}
use Rattle.condensed_laws.proofs.PivotRows.{target_of_pivot, pivot_passes_nowhere, pivot_fits_at}
use Rattle.condensed_laws.proofs.Pivots.{pivot_after}
use Rattle.condensed_laws.proofs.pivot_law.Goals as goal

pub returns-clause-target : goal.returns-clause-target
returns-clause-target c = target_of_pivot

pub returns-clause-pivot_row : goal.returns-clause-pivot_row
returns-clause-pivot_row c = pivot_after

pub returns-clause-passes_nowhere : goal.returns-clause-passes_nowhere
returns-clause-passes_nowhere c = pivot_passes_nowhere

pub returns-clause-fits : goal.returns-clause-fits
returns-clause-fits c = pivot_fits_at

pub returns-clause-lent : goal.returns-clause-lent
returns-clause-lent c = lent_row_is_like_whole
