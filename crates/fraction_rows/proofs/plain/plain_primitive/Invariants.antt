use Rattle.std.proofs.Common.{◌≡◌, map}
use Rattle.row_definitions.specs.Rows.{divided, row_divisor}
use Rattle.fraction_rows.proofs.Written.{written}
use Rattle.fraction_rows.proofs.plain.plain_primitive.Given as goal

abbrev pub invariant-loop-x : goal.invariant-loop-x
invariant-loop-x l = l.row ≡ written (map (divided (row_divisor l.fn.row)) l.fn.row) l.fn.row l.x-index
