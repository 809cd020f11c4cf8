use Rattle.settlement_laws.proofs.CanLose.{can_lose}
use Rattle.settlement_laws.proofs.laws.each_bet_can_lose.Goals as goal

pub returns : goal.returns
returns c = can_lose
