use Rattle.settlement_laws.proofs.HighScores.{high_scores_by_lead, high_scores_stand_last}
use Rattle.settlement_laws.proofs.laws.high_scores_go_by_lead.Goals as goal

pub returns-clause-lead : goal.returns-clause-lead
returns-clause-lead c = high_scores_by_lead

pub returns-clause-place : goal.returns-clause-place
returns-clause-place c = high_scores_stand_last
