use Rattle.std.proofs.lemmas.Result.{IfOk-weaker}
use Rattle.verdict_maker.proofs.CoarseFacts.{coarse_right_verdict}
use Rattle.verdict_maker.proofs.bench.coarse_verdict.Goals as goal

pub returns-clause-passes_check : goal.returns-clause-passes_check
returns-clause-passes_check c = IfOk-weaker c.found_with_coarse_odds.result _ _ (λ found is. coarse_right_verdict c.args.sheet.now c.bench.inside.law.budget found is) c.found_with_coarse_odds.ensures
