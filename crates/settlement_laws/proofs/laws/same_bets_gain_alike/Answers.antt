use Rattle.settlement_laws.proofs.SameBets as same_bets
use Rattle.settlement_laws.proofs.laws.same_bets_gain_alike.Goals as goal

pub returns : goal.returns
returns c = same_bets.same_bets_gain_alike
