use Rattle.std.proofs.Common.{ℕ, ◌<◌}
use Rattle.fraction_tableau.specs.Lent.{FitsInColumn}
use Rattle.fraction_tableau.proofs.lent.first_column.Given as goal

abbrev pub invariant-loop-column : goal.invariant-loop-column
invariant-loop-column l = (before : ℕ) → before < l.column → FitsInColumn l.rows l.width l.heads l.target l.pivot l.place before
