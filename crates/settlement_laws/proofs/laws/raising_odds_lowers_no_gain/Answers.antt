use Rattle.settlement_laws.proofs.RaisedOdds as raised_odds
use Rattle.settlement_laws.proofs.laws.raising_odds_lowers_no_gain.Goals as goal

pub returns : goal.returns
returns c = raised_odds.raising_odds_lowers_no_gain
