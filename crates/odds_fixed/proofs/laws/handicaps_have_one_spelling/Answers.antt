use Rattle.odds_fixed.proofs.LineSpelling.{handicap_spelling}
use Rattle.odds_fixed.proofs.laws.handicaps_have_one_spelling.Goals as goal

pub returns : goal.returns
returns c = handicap_spelling
