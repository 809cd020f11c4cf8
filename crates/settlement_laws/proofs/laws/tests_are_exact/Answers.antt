use Rattle.std.proofs.Common.{refl}
use Rattle.std.specs.Prelude.{◌↔◌, IsTrue}
use Rattle.scan_types.specs.declared.outcome.Outcome.{Outcome}
use Rattle.scan_types.specs.declared.outcome.Outcome.TheVariants.{Full, Abandoned}
use Rattle.settlement_definitions.specs.StandIns.{is_final}
use Rattle.finding_definitions.specs.Measure.{IsFinal}
use Rattle.settlement_laws.proofs.Alike.{Decides-settle_alike}
use Rattle.settlement_laws.proofs.laws.tests_are_exact.Goals as goal

final_test_is_exact : (x : Outcome) → IsTrue (is_final x) ↔ IsFinal x
final_test_is_exact (Full h a) = (λ _. tt, λ _. refl)
final_test_is_exact (Abandoned h a) = (λ e. absurd (cc), λ never. absurd never)

pub returns-clause-of_a_final_score : goal.returns-clause-of_a_final_score
returns-clause-of_a_final_score c = final_test_is_exact

pub returns-clause-of_alike_outcomes : goal.returns-clause-of_alike_outcomes
returns-clause-of_alike_outcomes c = Decides-settle_alike
