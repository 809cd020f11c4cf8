use Rattle.row_definitions.specs.Combination.{combined}
use Rattle.condensed_laws.specs.Heads.{moved}
use Rattle.fraction_tableau.specs.Lent.{row_of}
use Rattle.fraction_tableau.proofs.LentRows.{IsBetween}
use Rattle.fraction_tableau.proofs.lent.combine_others.Given as goal

abbrev pub invariant-loop-other : goal.invariant-loop-other
invariant-loop-other l = IsBetween (λ target. moved l.width l.place (combined target (row_of l.initial.rows l.pivot) l.place)) l.initial.rows l.rows l.pivot l.other
