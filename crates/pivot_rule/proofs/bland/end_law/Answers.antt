use Rattle.pivot_rule.proofs.EndsOnce.{end_is_one}
use Rattle.pivot_rule.proofs.bland.end_law.Goals as goal

pub returns : goal.returns
returns c = end_is_one
