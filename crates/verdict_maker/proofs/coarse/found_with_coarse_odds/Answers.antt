use Rattle.std.proofs.Common.{subst}
use Rattle.std.proofs.lemmas.Result.{IfOk-weaker}
use Rattle.judging_definitions.specs.CoarseFinding.{IsCoarseMeasure, AreCoarseStakes}
use Rattle.verdict_maker.specs.Tries.{FoundBy}
use Rattle.verdict_maker.proofs.CoarseFacts.{by_second}
use Rattle.verdict_maker.proofs.coarse.found_with_coarse_odds.Goals as goal

pub returns-in-None : goal.returns-in-None
returns-in-None c =
    let offers = c.args.sheet.now in
    let budget = c.args.budget in
    let none = subst (FoundBy (IsCoarseMeasure offers budget)) c.in-None.is c.in_ok-finding.ensures in
    IfOk-weaker c.coarse_stakes.result _ _ (λ found is. by_second (IsCoarseMeasure offers budget) (AreCoarseStakes offers budget) found none is) c.coarse_stakes.ensures
