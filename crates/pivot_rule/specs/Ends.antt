-- How a run ends.
use Rattle.std.specs.Prelude.{◌≡◌, ℕ, ◌<◌, length}
use Rattle.pivot_definitions.specs.Programs.{LinearProgram, IsProgram, IsCapped}
use Rattle.pivot_definitions.specs.Tableaus.{SimplexTableau, column_count, built, kept}
use Rattle.pivot_definitions.specs.Runs.{IsBest, EndsBest, EndsWide, EndsOutOfPivots}
use Rattle.bland_laws.specs.Ways.{ways}
use Rattle.pivot_rule.specs.declared.bland.RunEnd.{RunEnd}
use Rattle.pivot_rule.specs.declared.bland.RunEnd.TheVariants.{Best, Wide, OutOfPivots}

-- the tableau is as built of a program whose last row caps column 0
abbrev pub IsCappedStart : SimplexTableau → Type 0
IsCappedStart tableau = (program : LinearProgram) × IsProgram program × IsCapped program × (tableau ≡ built program)

-- a run over whole numbers without bound ends so, at this plain tableau
abbrev pub EndsAs : SimplexTableau → ℕ → RunEnd → SimplexTableau → Type 0
EndsAs start budget (Best pivots) end = EndsBest start budget pivots end
EndsAs start budget (Wide pivots row column) end = EndsWide start budget pivots row column end
EndsAs start budget (OutOfPivots pivots) end = EndsOutOfPivots start budget pivots end

-- the run ends so, and leaves the kept form of the plain tableau at its end
abbrev pub RunEndsAs : SimplexTableau → ℕ → RunEnd → SimplexTableau → Type 0
RunEndsAs start budget end left = (plain : SimplexTableau) × (left ≡ kept plain) × EndsAs start budget end plain

-- where the run ends at its best, no entry of the objective row but the right side's is above 0
abbrev pub BestIsBest : RunEnd → SimplexTableau → Type 0
BestIsBest (Best pivots) left = IsBest left
BestIsBest (Wide pivots row column) left = Unit {0}
BestIsBest (OutOfPivots pivots) left = Unit {0}

-- where the run is out of pivots, it made fewer than there are bases: ways to choose as many columns as the tableau has rows
abbrev pub MadeFewPivots : SimplexTableau → RunEnd → Type 0
MadeFewPivots start (Best pivots) = Unit {0}
MadeFewPivots start (Wide pivots row column) = Unit {0}
MadeFewPivots start (OutOfPivots pivots) = pivots < ways (column_count start) (length start.basis)

-- a run from a tableau with a budget has one end
abbrev pub EndIsOne : Type 0
EndIsOne = (start : SimplexTableau) (budget : ℕ) (end other : RunEnd) (plain other_plain : SimplexTableau) → EndsAs start budget end plain → EndsAs start budget other other_plain → end ≡ other
