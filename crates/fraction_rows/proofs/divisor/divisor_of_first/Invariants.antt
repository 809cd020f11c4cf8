use Rattle.std.proofs.Common.{◌∷◌, pos, take}
use Rattle.row_definitions.proofs.Divisors.{IsRowGcd}
use Rattle.fraction_rows.proofs.divisor.divisor_of_first.Given as goal

abbrev pub invariant-loop-x : goal.invariant-loop-x
invariant-loop-x l = IsRowGcd (pos l.bound ∷ take l.x-index l.row) l.divisor
