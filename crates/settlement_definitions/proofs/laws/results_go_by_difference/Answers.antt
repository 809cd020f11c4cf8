use Rattle.settlement_definitions.proofs.GainLemmas.{gain-same_legs, leg_result-home_leads, leg_result-level, leg_result-away_leads}
use Rattle.scan_types.specs.declared.outcome.Outcome.TheVariants.{Full}
use Rattle.settlement_definitions.proofs.laws.results_go_by_difference.Goals as goal

pub returns : goal.returns
returns c offer h a on = (
  λ lt. gain-same_legs offer (Full h a) (Full 1 0) (λ leg. leg_result-home_leads offer.selection leg h a on lt),
  λ eq. gain-same_legs offer (Full h a) (Full 0 0) (λ leg. leg_result-level offer.selection leg h a on eq),
  λ lt. gain-same_legs offer (Full h a) (Full 0 1) (λ leg. leg_result-away_leads offer.selection leg h a on lt),
)
