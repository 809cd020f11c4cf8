use Rattle.judging_laws.proofs.laws.one_of_two_holds_within_limits.Goals as goal
use Rattle.judging_laws.proofs.Limits.{below_what_is_asked}
use Rattle.judging_laws.proofs.Parts.{parts_reach}

pub returns : goal.returns
returns c = record {
  below = λ offers asked tableau at below. (below_what_is_asked offers asked tableau at.0 at.1 below).0;
  level_one = λ offers tableau parts at. parts_reach offers tableau parts at.0 at.1;
}
