use Rattle.cert_checker.proofs.Rightness.{yes_right, right_yes, right_admits_none}
use Rattle.cert_checker.proofs.checking.check.Goals as goal

pub returns-clause-yes : goal.returns-clause-yes
returns-clause-yes c =
    let answer = c.try_in_order.ensures.answer in
    (yes_right c.args.sheet.now c.args.finding.now c.try_in_order.result answer, right_yes c.args.sheet.now c.args.finding.now c.try_in_order.result answer)

pub returns-clause-no_arbitrage : goal.returns-clause-no_arbitrage
returns-clause-no_arbitrage c told =
    right_admits_none c.args.sheet.now c.args.finding.now (yes_right c.args.sheet.now c.args.finding.now c.try_in_order.result c.try_in_order.ensures.answer told)
