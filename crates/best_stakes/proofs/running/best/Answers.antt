use Rattle.std.proofs.lemmas.Result.{IfOk-weaker}
use Rattle.best_stakes.proofs.BestFacts.{right_out, gains_most, few_pivots}
use Rattle.best_stakes.proofs.running.best.Goals as goal

pub returns-clause-right : goal.returns-clause-right
returns-clause-right c = IfOk-weaker c.run_for_best.result _ _ (λ out found. right_out c.args.sheet.now c.args.budget out found) c.run_for_best.ensures

pub returns-clause-no_more : goal.returns-clause-no_more
returns-clause-no_more c = IfOk-weaker c.run_for_best.result _ _ (λ out found. gains_most c.args.sheet.now out (right_out c.args.sheet.now c.args.budget out found)) c.run_for_best.ensures

pub returns-clause-few_pivots : goal.returns-clause-few_pivots
returns-clause-few_pivots c = IfOk-weaker c.run_for_best.result _ _ (λ out found. few_pivots c.args.sheet.now c.args.budget out found) c.run_for_best.ensures
