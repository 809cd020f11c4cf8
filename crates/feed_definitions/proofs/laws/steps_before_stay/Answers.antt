use Rattle.feed_definitions.proofs.Prefixes.{steps_stay}
use Rattle.feed_definitions.proofs.laws.steps_before_stay.Goals as goal

pub returns : goal.returns
returns c = steps_stay
