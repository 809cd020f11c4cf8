use Rattle.judging_laws.proofs.laws.one_of_two_holds.Goals as goal
use Rattle.judging_laws.proofs.Coherence.{coherent}
use Rattle.judging_laws.proofs.Directions.{direction_gains}

pub returns : goal.returns
returns c = record {
  level_zero = λ offers tableau at. coherent offers tableau at.0 at.1;
  level_one = λ offers tableau direction at. direction_gains offers tableau direction at.0 at.1;
}
