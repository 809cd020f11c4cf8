use Rattle.std.proofs.Common.{refl}
use Rattle.judging_definitions.specs.JudgingPrograms.{homogeneous_program, limited_program}
use Rattle.judging_laws.proofs.ProgramRows.{homogeneous_is_capped, limited_is_capped}
use Rattle.coherence_lp.proofs.programs.runs_may_begin.Goals as goal

pub returns-clause-homogeneous : goal.returns-clause-homogeneous
returns-clause-homogeneous c classes offers =
    let capped = homogeneous_is_capped classes offers in
    (homogeneous_program classes offers, capped.0, capped.1, refl)

pub returns-clause-limited : goal.returns-clause-limited
returns-clause-limited c classes offers asked =
    let capped = limited_is_capped classes offers asked in
    (limited_program classes offers asked, capped.0, capped.1, refl)
