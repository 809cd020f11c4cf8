use Rattle.feed_board_laws.proofs.Takes.{takes_line, line_held, others_stay}
use Rattle.feed_board_laws.proofs.laws.a_board_takes_the_lines_of_a_feed.Goals as goal

pub returns-clause-takes : goal.returns-clause-takes
returns-clause-takes c = takes_line

pub returns-clause-held : goal.returns-clause-held
returns-clause-held c = line_held

pub returns-clause-others : goal.returns-clause-others
returns-clause-others c = others_stay
