use Rattle.std.proofs.Common.{◌≡◌, map, take}
use Rattle.judging_definitions.specs.Columns.{offer_divisor}
use Rattle.coherence_lp.specs.ProgramTables.{divided_table}
use Rattle.coherence_lp.proofs.columns.columns_of.Given as goal

abbrev pub invariant-loop-i : goal.invariant-loop-i
invariant-loop-i l = record {
  gains : l.gains.items ≡ divided_table l.classes (take l.i l.offers);
  divisors : l.divisors.items ≡ map (offer_divisor l.classes) (take l.i l.offers);
}
