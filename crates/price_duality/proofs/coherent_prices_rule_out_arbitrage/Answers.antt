use Rattle.price_duality.proofs.Verdict.{no_unit, arbitrage_wins}
use Rattle.price_duality.proofs.coherent_prices_rule_out_arbitrage.Goals as goal

pub returns : goal.returns
returns c offers m stakes right a = no_unit offers m 1 stakes right (arbitrage_wins offers stakes a)
