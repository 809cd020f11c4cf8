use Rattle.bland_laws.proofs.RunsAreShort.{run_is_short, out_of_pivots_is_short}
use Rattle.bland_laws.proofs.runs_are_short.Goals as goal

pub returns-clause-short : goal.returns-clause-short
returns-clause-short c = run_is_short

pub returns-clause-out_of_pivots : goal.returns-clause-out_of_pivots
returns-clause-out_of_pivots c = out_of_pivots_is_short
