use Rattle.price_duality.proofs.MostGain.{bounded}
use Rattle.price_duality.proofs.measure_bounds_gain.Goals as goal

pub returns : goal.returns
returns c offers m d parts price wins = bounded offers m d parts price wins
