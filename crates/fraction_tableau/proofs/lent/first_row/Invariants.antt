use Rattle.fraction_tableau.specs.Lent.{PassNowhereBelow}
use Rattle.fraction_tableau.proofs.lent.first_row.Given as goal

abbrev pub invariant-loop-other : goal.invariant-loop-other
invariant-loop-other l = PassNowhereBelow l.rows l.pivot l.place l.other
