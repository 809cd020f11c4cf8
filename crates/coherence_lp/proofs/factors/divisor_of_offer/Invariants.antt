use Rattle.std.specs.Prelude.{unsigned_abs, slice_index_or}
use Rattle.scan_types.specs.declared.outcome.Outcome.TheVariants.{Full}
use Rattle.settlement_definitions.specs.Gain.{gain}
use Rattle.coherence_lp.proofs.Divisors.{IsGcdBelow}
use Rattle.coherence_lp.proofs.factors.divisor_of_offer.Given as goal

abbrev pub invariant-loop-j : goal.invariant-loop-j
invariant-loop-j l = IsGcdBelow (λ j. unsigned_abs (gain l.offer (slice_index_or l.classes j (Full 0 0)))) l.j l.divisor
