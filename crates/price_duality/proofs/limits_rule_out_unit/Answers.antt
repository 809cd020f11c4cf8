use Rattle.price_duality.proofs.Limits.{thin_rules_out_unit, arbitrage_reaches}
use Rattle.price_duality.proofs.limits_rule_out_unit.Goals as goal

pub returns-clause-fractions : goal.returns-clause-fractions
returns-clause-fractions c = thin_rules_out_unit

pub returns-clause-whole : goal.returns-clause-whole
returns-clause-whole c offers m d found stakes right a =
    thin_rules_out_unit offers m d 1 found stakes right (arbitrage_reaches offers stakes a)
