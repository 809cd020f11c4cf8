-- The tableaus from which something is read: each is at the best end of a run of a program of the sheet.
use Rattle.std.specs.Prelude.{◌≡◌, ◌⊎◌, List, ℤ}
use Rattle.scan_types.specs.declared.offer.Offer.{Offer}
use Rattle.scan_types.specs.declared.outcome.Outcome.{Outcome}
use Rattle.settlement_definitions.specs.Classes.{classes_of}
use Rattle.pivot_definitions.specs.Programs.{LinearProgram}
use Rattle.pivot_definitions.specs.Tableaus.{SimplexTableau}
use Rattle.judging_definitions.specs.JudgingPrograms.{limited_program}
use Rattle.judging_definitions.specs.FirstRun.{first_program}
use Rattle.judging_laws.specs.Laws.{IsAtBest}

-- a run of some capped program is at its best at this tableau
abbrev pub IsBestEnd : SimplexTableau → Type 0
IsBestEnd tableau = (program : LinearProgram) × IsAtBest program tableau

-- a run of the sheet's program without limits is at its best at this tableau
abbrev pub IsFirstEnd : List Offer → SimplexTableau → Type 0
IsFirstEnd offers tableau = IsAtBest (first_program offers) tableau

-- a run of a program of the sheet with limits, whatever is asked for, is at its best at this tableau
abbrev pub IsLimitedEnd : List Offer → SimplexTableau → Type 0
IsLimitedEnd offers tableau = (asked : Outcome → ℤ) × IsAtBest (limited_program (classes_of offers) offers asked) tableau

-- the classes are those of a sheet, and a run of one of its programs is at its best at this tableau
abbrev pub IsProgramEnd : List Outcome → SimplexTableau → Type 0
IsProgramEnd classes tableau = (offers : List Offer) × (classes ≡ classes_of offers) × (IsFirstEnd offers tableau ⊎ IsLimitedEnd offers tableau)
