use Rattle.best_laws.proofs.RightBest.{right_best}
use Rattle.best_laws.proofs.most_program_gives_best.Goals as goal

pub returns : goal.returns
returns c offers tableau parts best are small = right_best offers tableau parts best.0 best.1 are small
