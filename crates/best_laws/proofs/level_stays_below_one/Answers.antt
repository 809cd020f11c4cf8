use Rattle.best_laws.proofs.LevelBelowOne.{below_one}
use Rattle.best_laws.proofs.level_stays_below_one.Goals as goal

pub returns : goal.returns
returns c offers tableau best one = below_one offers tableau best.0 best.1 one
