-- Laws of the program for the best stakes.
use Rattle.std.specs.Prelude.{List}
use Rattle.scan_types.specs.declared.limits.TheConstants.{MOST_PART}
use Rattle.scan_types.specs.declared.offer.Offer.{Offer}
use Rattle.settlement_definitions.specs.Classes.{classes_of}
use Rattle.pivot_definitions.specs.Programs.{LinearProgram}
use Rattle.pivot_definitions.specs.Tableaus.{SimplexTableau}
use Rattle.finding_definitions.specs.Fractions.{Fractions}
use Rattle.finding_definitions.specs.Best.{IsRightBest}
use Rattle.judging_definitions.specs.JudgingPrograms.{limited_program}
use Rattle.judging_definitions.specs.MostProgram.{most_need}
use Rattle.judging_definitions.specs.Readings.{HasLevelOne, NoneAbove, class_weights, AreParts}
use Rattle.judging_laws.specs.Laws.{IsAtBest, limited_stakes, measure_of}

-- the program for the best stakes of a sheet
abbrev pub most_program : List Offer → LinearProgram
most_program offers = limited_program (classes_of offers) offers (most_need offers)

-- its level stays below 1
abbrev pub LevelStaysBelowOne : Type 0
LevelStaysBelowOne = (offers : List Offer) (tableau : SimplexTableau) → IsAtBest (most_program offers) tableau → HasLevelOne tableau → ⊥

-- the parts and the measure at its best end are a right best
abbrev pub MostProgramGivesBest : Type 0
MostProgramGivesBest =
    (offers : List Offer) (tableau : SimplexTableau) (parts : Fractions) → IsAtBest (most_program offers) tableau → AreParts (limited_stakes offers tableau) parts
    → NoneAbove MOST_PART (class_weights (classes_of offers) tableau) → IsRightBest offers parts.divisor parts.parts (measure_of offers tableau)
