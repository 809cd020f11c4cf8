use Rattle.feed_board_laws.proofs.Accepts.{steps_accepted}
use Rattle.feed_board_laws.proofs.laws.steps_are_accepted.Goals as goal

pub returns : goal.returns
returns c = steps_accepted
