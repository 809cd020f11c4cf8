-- What a run leaves.
use Rattle.std.specs.Prelude.{◌≡◌, ℕ, ◌⊎◌}
use Rattle.pivot_definitions.specs.Programs.{LinearProgram}
use Rattle.pivot_definitions.specs.Tableaus.{SimplexTableau, built, kept}
use Rattle.pivot_definitions.specs.Runs.{EndsBest}
use Rattle.finding_definitions.specs.declared.finding.Stage.{Stage}
use Rattle.judging_definitions.specs.ExactFinding.{IsWideRun, IsSpentRun}
use Rattle.judging_laws.specs.Laws.{IsAtBest}
use Rattle.verdict_maker.specs.declared.runs.Ran.{Ran}
use Rattle.verdict_maker.specs.declared.runs.Ran.TheVariants.{AtBest, Open}

-- a run of the program ends at its best after so many pivots, at a tableau of which this is the kept form
pub record LeavesBest (program : LinearProgram) (budget pivots : ℕ) (left : SimplexTableau) : Type 0 where
  pub plain : SimplexTableau
  pub ends : EndsBest (built program) budget pivots plain
  pub is_kept : left ≡ kept plain
  pub at_best : IsAtBest program left

-- how the run of a stage went: it leaves its best tableau, or it is the finding
abbrev pub RanAs : LinearProgram → ℕ → Stage → Ran → SimplexTableau → Type 0
RanAs program budget stage (AtBest pivots) left = LeavesBest program budget pivots left
RanAs program budget stage (Open finding) left = IsWideRun program budget stage finding ⊎ IsSpentRun program budget stage finding
