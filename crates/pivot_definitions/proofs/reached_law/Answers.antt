use Rattle.pivot_definitions.proofs.KeptFeasible.{reached_is_feasible, values_are_not_negative}
use Rattle.pivot_definitions.proofs.reached_law.Goals as goal

pub returns-clause-reached_is_feasible : goal.returns-clause-reached_is_feasible
returns-clause-reached_is_feasible c = reached_is_feasible

pub returns-clause-values_are_not_negative : goal.returns-clause-values_are_not_negative
returns-clause-values_are_not_negative c = values_are_not_negative
