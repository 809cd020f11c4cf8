use Rattle.pivot_definitions.proofs.Optimum.{rows_combine, best_multipliers_bound}
use Rattle.pivot_definitions.proofs.Solutions.{basic_solution_exists, basic_solution_satisfies}
use Rattle.pivot_definitions.proofs.Bound.{level_is_bound}
use Rattle.pivot_definitions.proofs.Weak.{bound_holds}
use Rattle.pivot_definitions.proofs.duality_law.Goals as goal

pub returns-clause-rows_combine : goal.returns-clause-rows_combine
returns-clause-rows_combine c = rows_combine

pub returns-clause-best_multipliers_bound : goal.returns-clause-best_multipliers_bound
returns-clause-best_multipliers_bound c = best_multipliers_bound

pub returns-clause-basic_solution_exists : goal.returns-clause-basic_solution_exists
returns-clause-basic_solution_exists c = basic_solution_exists

pub returns-clause-basic_solution_satisfies : goal.returns-clause-basic_solution_satisfies
returns-clause-basic_solution_satisfies c = basic_solution_satisfies

pub returns-clause-level_is_bound : goal.returns-clause-level_is_bound
returns-clause-level_is_bound c = level_is_bound

pub returns-clause-bound_holds : goal.returns-clause-bound_holds
returns-clause-bound_holds c = bound_holds
