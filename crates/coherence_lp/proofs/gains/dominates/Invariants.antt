use Rattle.std.proofs.Common.{◌≡◌, true}
use Rattle.std.specs.Prelude.{int_le, int_lt}
use Rattle.row_definitions.specs.Rows.{entry}
use Rattle.coherence_lp.specs.Comparisons.{all_below, any_below}
use Rattle.coherence_lp.proofs.gains.dominates.Given as goal

abbrev pub invariant-loop-j : goal.invariant-loop-j
invariant-loop-j l = record {
  no_less : all_below (λ j. int_le (entry l.own j) (entry l.other j)) l.j ≡ true;
  more : l.gains_more ≡ any_below (λ j. int_lt (entry l.own j) (entry l.other j)) l.j;
}
