use Rattle.std.proofs.lemmas.Result.{IfOk-weaker}
use Rattle.judging_laws.proofs.RightFindings.{finding_right}
use Rattle.judging_laws.proofs.SpentRuns.{spent_run_is_short}
use Rattle.verdict_maker.proofs.TurnFacts.{right_verdict}
use Rattle.verdict_maker.proofs.bench.judge.Goals as goal

pub returns-clause-right : goal.returns-clause-right
returns-clause-right c = IfOk-weaker c.finding_of.result _ _ (λ finding found. finding_right c.args.sheet.now c.bench.inside.law.budget finding found) c.finding_of.ensures

pub returns-clause-passes_check : goal.returns-clause-passes_check
returns-clause-passes_check c = IfOk-weaker c.finding_of.result _ _ (λ finding found verdict. right_verdict c.args.sheet.now finding (finding_right c.args.sheet.now c.bench.inside.law.budget finding found) verdict) c.finding_of.ensures

pub returns-clause-few_pivots : goal.returns-clause-few_pivots
returns-clause-few_pivots c = IfOk-weaker c.finding_of.result _ _ (λ finding found. spent_run_is_short c.args.sheet.now c.bench.inside.law.budget finding found) c.finding_of.ensures
