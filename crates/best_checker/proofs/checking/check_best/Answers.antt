use Rattle.price_duality.proofs.MostGain.{most_gained}
use Rattle.best_checker.proofs.Rightness.{yes_right, right_yes}
use Rattle.best_checker.proofs.checking.check_best.Goals as goal

pub returns-clause-yes : goal.returns-clause-yes
returns-clause-yes c =
    (yes_right c.args.sheet.now c.args.parts.now c.args.measure.now c.try_in_order.result c.try_in_order.ensures, right_yes c.args.sheet.now c.args.parts.now c.args.measure.now c.try_in_order.result c.try_in_order.ensures)

pub returns-clause-no_more : goal.returns-clause-no_more
returns-clause-no_more c told =
    most_gained c.args.sheet.now c.args.parts.now.divisor c.args.parts.now.parts c.args.measure.now (yes_right c.args.sheet.now c.args.parts.now c.args.measure.now c.try_in_order.result c.try_in_order.ensures told)
