use Rattle.settlement_laws.proofs.FiveGains.{five_gains}
use Rattle.settlement_laws.proofs.laws.a_bet_gains_one_of_five_amounts.Goals as goal

pub returns : goal.returns
returns c = five_gains
