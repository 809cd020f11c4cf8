use Rattle.odds_fixed.proofs.NumberSpelling.{number_spelling}
use Rattle.odds_fixed.proofs.laws.numbers_have_one_spelling.Goals as goal

pub returns : goal.returns
returns c = number_spelling
