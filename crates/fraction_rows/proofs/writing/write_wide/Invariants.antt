use Rattle.std.proofs.Common.{◌≡◌}
use Rattle.row_definitions.specs.Combination.{combination}
use Rattle.fraction_rows.proofs.Written.{written}
use Rattle.fraction_rows.proofs.WrittenCombination.{AreTogether}
use Rattle.fraction_rows.proofs.writing.write_wide.Given as goal

abbrev pub invariant-loop-column : goal.invariant-loop-column
invariant-loop-column l = record {
  so_far : l.target ≡ written (combination l.factors.target l.factors.pivot l.fn.target l.pivot) l.fn.target l.column;
  sizes : AreTogether (combination l.factors.target l.factors.pivot l.fn.target l.pivot) l.sizes l.column;
}
