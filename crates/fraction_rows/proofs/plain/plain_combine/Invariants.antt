use Rattle.std.proofs.Common.{◌≡◌}
use Rattle.row_definitions.specs.Combination.{reduced_combination}
use Rattle.fraction_rows.proofs.Written.{written}
use Rattle.fraction_rows.proofs.plain.plain_combine.Given as goal

abbrev pub invariant-loop-column : goal.invariant-loop-column
invariant-loop-column l = l.target ≡ written (reduced_combination l.fn.target l.pivot l.at) l.fn.target l.column
