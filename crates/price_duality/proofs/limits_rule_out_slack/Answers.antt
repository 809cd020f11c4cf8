use Rattle.price_duality.proofs.Limits.{narrow_rules_out_slack}
use Rattle.price_duality.proofs.limits_rule_out_slack.Goals as goal

pub returns : goal.returns
returns c = narrow_rules_out_slack
