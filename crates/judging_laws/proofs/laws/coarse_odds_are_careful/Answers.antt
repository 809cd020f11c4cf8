use Rattle.judging_laws.proofs.CoarseOdds as coarse_odds
use Rattle.judging_laws.proofs.laws.coarse_odds_are_careful.Goals as goal

pub returns-clause-measure : goal.returns-clause-measure
returns-clause-measure c = coarse_odds.raised_measure_is_right

pub returns-clause-left_out : goal.returns-clause-left_out
returns-clause-left_out c = coarse_odds.left_out_gain_nothing

pub returns-clause-stakes : goal.returns-clause-stakes
returns-clause-stakes c = coarse_odds.lowered_stakes_gain_no_less
