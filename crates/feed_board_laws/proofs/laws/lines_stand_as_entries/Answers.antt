use Rattle.feed_board_laws.proofs.Stands.{same_stands}
use Rattle.feed_board_laws.proofs.laws.lines_stand_as_entries.Goals as goal

pub returns : goal.returns
returns c = same_stands
