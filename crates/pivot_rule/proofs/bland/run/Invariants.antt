use Rattle.std.proofs.Common.{◌≡◌}
use Rattle.pivot_definitions.specs.Tableaus.{SimplexTableau, kept, HasSameShape}
use Rattle.pivot_definitions.specs.Runs.{RunsTo}
use Rattle.pivot_rule.proofs.bland.run.Given as goal

abbrev pub invariant-loop-pivots : goal.invariant-loop-pivots
invariant-loop-pivots l = record {
  run : (plain : SimplexTableau) × (l.tableau ≡ kept plain) × RunsTo l.initial.tableau l.pivots plain;
  shape : HasSameShape l.initial.tableau l.tableau;
}
