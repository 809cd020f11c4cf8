use Rattle.feed_definitions.proofs.Prefixes.{steps_end}
use Rattle.feed_definitions.proofs.laws.the_ending_follows_the_lines.Goals as goal

pub returns : goal.returns
returns c = steps_end
