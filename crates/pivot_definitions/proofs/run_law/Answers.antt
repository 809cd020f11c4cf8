use Rattle.pivot_definitions.proofs.One.{choice_is_one, run_is_one}
use Rattle.pivot_definitions.proofs.run_law.Goals as goal

pub returns-clause-choice : goal.returns-clause-choice
returns-clause-choice c = choice_is_one

pub returns-clause-run : goal.returns-clause-run
returns-clause-run c = run_is_one
