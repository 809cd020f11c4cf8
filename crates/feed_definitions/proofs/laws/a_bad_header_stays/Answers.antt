use Rattle.feed_definitions.proofs.Prefixes.{bad_header_stays}
use Rattle.feed_definitions.proofs.laws.a_bad_header_stays.Goals as goal

pub returns : goal.returns
returns c = bad_header_stays
