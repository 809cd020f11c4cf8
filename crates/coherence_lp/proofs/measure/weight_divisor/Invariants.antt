use Rattle.std.specs.Prelude.{unsigned_abs}
use Rattle.pivot_definitions.specs.Tableaus.{multiplier_of}
use Rattle.coherence_lp.proofs.Divisors.{IsGcdBelow}
use Rattle.coherence_lp.proofs.measure.weight_divisor.Given as goal

abbrev pub invariant-loop-row : goal.invariant-loop-row
invariant-loop-row l = IsGcdBelow (λ row. unsigned_abs (multiplier_of l.tableau row)) l.row l.divisor
