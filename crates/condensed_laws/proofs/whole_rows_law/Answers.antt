use Rattle.condensed_laws.proofs.Wholes.{combined_of_wholes, fits_of_wholes, passes_nowhere_of_wholes}
use Rattle.condensed_laws.proofs.whole_rows_law.Goals as goal

pub returns-clause-combined : goal.returns-clause-combined
returns-clause-combined c = combined_of_wholes

pub returns-clause-fits : goal.returns-clause-fits
returns-clause-fits c = fits_of_wholes

pub returns-clause-passes_nowhere : goal.returns-clause-passes_nowhere
returns-clause-passes_nowhere c = passes_nowhere_of_wholes
