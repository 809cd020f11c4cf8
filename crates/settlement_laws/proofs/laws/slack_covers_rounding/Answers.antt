use Rattle.settlement_laws.proofs.Roundings.{slack_covers}
use Rattle.settlement_laws.proofs.laws.slack_covers_rounding.Goals as goal

pub returns : goal.returns
returns c = slack_covers
