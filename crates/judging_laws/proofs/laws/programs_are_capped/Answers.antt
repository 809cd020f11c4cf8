use Rattle.judging_laws.proofs.laws.programs_are_capped.Goals as goal
use Rattle.judging_laws.proofs.ProgramRows.{homogeneous_is_capped, limited_is_capped}

pub returns : goal.returns
returns c = record { homogeneous = homogeneous_is_capped; limited = limited_is_capped }
