use Rattle.feed_definitions.proofs.Prefixes.{step_of_line}
use Rattle.feed_definitions.proofs.laws.a_step_is_of_its_line.Goals as goal

pub returns : goal.returns
returns c = step_of_line
