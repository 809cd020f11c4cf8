use Rattle.price_duality.proofs.MostGain.{most_gained}
use Rattle.price_duality.proofs.best_gains_most.Goals as goal

pub returns : goal.returns
returns c = most_gained
