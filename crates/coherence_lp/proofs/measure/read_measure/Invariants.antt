use Rattle.std.proofs.Common.{◌≡◌, take, filter}
use Rattle.std.specs.Prelude.{zip}
use Rattle.scan_types.specs.declared.limits.TheConstants.{MOST_PART}
use Rattle.judging_definitions.specs.Readings.{class_weights}
use Rattle.coherence_lp.proofs.ClassWeights.{has_weight, NoneAboveBefore}
use Rattle.coherence_lp.proofs.measure.read_measure.Given as goal

abbrev pub invariant-loop-j : goal.invariant-loop-j
invariant-loop-j l = record {
  items : l.items.items ≡ filter has_weight (take l.j (zip l.outcomes (class_weights l.outcomes l.tableau)));
  none : NoneAboveBefore MOST_PART (class_weights l.outcomes l.tableau) l.j;
}
