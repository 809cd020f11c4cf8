use Rattle.pivot_laws.proofs.Ends.{objective_never_passes_first_by_any_rule, objective_never_passes_first}
use Rattle.pivot_laws.proofs.the_objective_row_never_passes_first.Goals as goal

pub returns-clause-by_any_rule : goal.returns-clause-by_any_rule
returns-clause-by_any_rule c = objective_never_passes_first_by_any_rule

pub returns-clause-in_a_run : goal.returns-clause-in_a_run
returns-clause-in_a_run c = objective_never_passes_first
