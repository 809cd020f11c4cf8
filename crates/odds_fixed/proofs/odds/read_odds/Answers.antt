use Rattle.std.proofs.Common.{◌∙◌}
use Rattle.number_definitions.proofs.Made.{odds_made}
use Rattle.odds_fixed.proofs.Made.{odds_read}
use Rattle.odds_fixed.proofs.odds.read_odds.Goals as goal

pub returns-in-Some : goal.returns-in-Some
returns-in-Some c = c.ok_or.ensures.value
    ∙ odds_read c.args.text.now c.in-Some.thousandths c.new.result c.in-Some.ensures (odds_made c.new.result c.in-Some.thousandths c.new.ensures.value c.new.ensures.in_range)
