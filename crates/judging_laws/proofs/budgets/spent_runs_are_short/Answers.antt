use Rattle.judging_laws.proofs.SpentRuns.{spent_run_is_short}
use Rattle.judging_laws.proofs.budgets.spent_runs_are_short.Goals as goal

pub returns : goal.returns
returns c = spent_run_is_short
