use Rattle.std.proofs.Common.{◌≡◌, map, take}
use Rattle.row_definitions.specs.Rows.{divided}
use Rattle.row_definitions.proofs.Divisors.{Divides}
use Rattle.fraction_rows.specs.Divisors.{size_of}
use Rattle.fraction_rows.proofs.Written.{written}
use Rattle.fraction_rows.proofs.division.divide.Given as goal

abbrev pub invariant-loop-column : goal.invariant-loop-column
invariant-loop-column l = record {
  so_far : l.row ≡ written (map (divided (size_of l.divisor)) l.fn.row) l.fn.row l.column;
  divides : Divides (size_of l.divisor) (take l.column l.fn.row);
}
