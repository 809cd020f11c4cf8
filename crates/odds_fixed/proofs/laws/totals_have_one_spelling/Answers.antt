use Rattle.odds_fixed.proofs.LineSpelling.{total_spelling}
use Rattle.odds_fixed.proofs.laws.totals_have_one_spelling.Goals as goal

pub returns : goal.returns
returns c = total_spelling
