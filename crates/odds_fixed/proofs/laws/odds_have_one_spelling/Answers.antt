use Rattle.odds_fixed.proofs.OddsSpelling.{odds_spelling}
use Rattle.odds_fixed.proofs.laws.odds_have_one_spelling.Goals as goal

pub returns : goal.returns
returns c = odds_spelling
