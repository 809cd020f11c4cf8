use Rattle.price_duality.proofs.Verdict.{no_unit, reached_wins}
use Rattle.price_duality.proofs.coherent_prices_rule_out_gain.Goals as goal

pub returns-clause-any_limits : goal.returns-clause-any_limits
returns-clause-any_limits c = no_unit

pub returns-clause-within_limits : goal.returns-clause-within_limits
returns-clause-within_limits c offers m divisor parts right r =
    no_unit offers m divisor parts right (reached_wins offers divisor parts r)
