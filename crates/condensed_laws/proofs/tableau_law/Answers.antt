use Rattle.condensed_laws.proofs.Built.{built_of_condensed}
use Rattle.condensed_laws.proofs.Shown.{condensed_rows_fit, condensed_rows_are_primitive}
use Rattle.condensed_laws.proofs.Tableaus.{pivot_of_condensed}
use Rattle.condensed_laws.proofs.Sound.{pivot_stays_sound}
use Rattle.condensed_laws.proofs.tableau_law.Goals as goal

pub returns-clause-pivot : goal.returns-clause-pivot
returns-clause-pivot c = pivot_of_condensed

pub returns-clause-sound : goal.returns-clause-sound
returns-clause-sound c = pivot_stays_sound

pub returns-clause-built : goal.returns-clause-built
returns-clause-built c = built_of_condensed

pub returns-clause-fits : goal.returns-clause-fits
returns-clause-fits c = condensed_rows_fit

pub returns-clause-primitive : goal.returns-clause-primitive
returns-clause-primitive c = condensed_rows_are_primitive
