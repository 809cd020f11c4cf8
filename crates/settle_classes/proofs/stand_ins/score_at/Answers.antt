use Rattle.settlement_definitions.specs.StandIns.{stand_scores}
use Rattle.settlement_laws.proofs.Table.{slice_get-stand_scores, small_at}
use Rattle.settle_classes.proofs.stand_ins.score_at.Goals as goal

pub returns-clause-numbered : goal.returns-clause-numbered
unfolding stand_scores
returns-clause-numbered c = slice_get-stand_scores c.args.k _ c.requires

pub returns-clause-small : goal.returns-clause-small
unfolding stand_scores
returns-clause-small c = small_at c.args.k _ (slice_get-stand_scores c.args.k _ c.requires)
