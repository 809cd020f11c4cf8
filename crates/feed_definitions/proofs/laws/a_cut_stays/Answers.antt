use Rattle.feed_definitions.proofs.Prefixes.{cut_stays}
use Rattle.feed_definitions.proofs.laws.a_cut_stays.Goals as goal

pub returns : goal.returns
returns c = cut_stays
