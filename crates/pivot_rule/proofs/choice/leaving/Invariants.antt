use Rattle.pivot_rule.proofs.Least.{LeastBelow}
use Rattle.pivot_rule.proofs.choice.leaving.Given as goal

abbrev pub invariant-loop-row : goal.invariant-loop-row
invariant-loop-row l = LeastBelow l.tableau l.column l.row l.least
