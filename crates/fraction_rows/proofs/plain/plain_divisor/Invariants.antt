use Rattle.std.proofs.Common.{take}
use Rattle.row_definitions.proofs.Divisors.{IsRowGcd}
use Rattle.fraction_rows.proofs.plain.plain_divisor.Given as goal

abbrev pub invariant-loop-x : goal.invariant-loop-x
invariant-loop-x l = IsRowGcd (take l.x-index l.row) l.divisor
