-- The tableaus in which the runs of a sheet begin.
use Rattle.std.specs.Prelude.{List, ℤ}
use Rattle.pivot_definitions.specs.Tableaus.{built}
use Rattle.pivot_rule.specs.Ends.{IsCappedStart}
use Rattle.scan_types.specs.declared.offer.Offer.{Offer}
use Rattle.scan_types.specs.declared.outcome.Outcome.{Outcome}
use Rattle.judging_definitions.specs.JudgingPrograms.{homogeneous_program, limited_program}

-- a run may begin in the tableau of the program without limits, as built
abbrev pub HomogeneousStarts : Type 0
HomogeneousStarts = (classes : List Outcome) (offers : List Offer) → IsCappedStart (built (homogeneous_program classes offers))

-- and in that of a program with limits
abbrev pub LimitedStarts : Type 0
LimitedStarts = (classes : List Outcome) (offers : List Offer) (asked : Outcome → ℤ) → IsCappedStart (built (limited_program classes offers asked))
