use Rattle.std.proofs.Common.{take}
use Rattle.row_definitions.proofs.Divisors.{IsRowGcd}
use Rattle.coherence_lp.proofs.columns.divisor_of.Given as goal

abbrev pub invariant-loop-x : goal.invariant-loop-x
invariant-loop-x l = IsRowGcd (take l.x-index l.row) l.divisor
