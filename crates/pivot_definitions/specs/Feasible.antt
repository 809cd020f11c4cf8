-- What holds of every tableau that a run reaches.
use Rattle.std.specs.Prelude.{ℕ, ◌<◌, length, ℤ, pos, ◌<ℤ◌, ◌≤ℤ◌}
use Rattle.pivot_definitions.specs.Programs.{LinearProgram}
use Rattle.pivot_definitions.specs.Tableaus.{SimplexTableau, IsTableau, IsCanonical, right_side, IsValueOf}
use Rattle.pivot_definitions.specs.Duality.{IsReached}

-- no right side of a constraint row is below 0, so no column of the basic solution is
abbrev pub HasNoNegativeRightSide : SimplexTableau → Type 0
HasNoNegativeRightSide tableau = (row : ℕ) → row < length tableau.basis → pos 0 ≤ℤ right_side tableau row

-- the basic solution is one of the program
pub record IsFeasible (tableau : SimplexTableau) : Type 0 where
  pub shape : IsTableau tableau
  pub canonical : IsCanonical tableau
  pub right_sides : HasNoNegativeRightSide tableau

-- that holds of the kept form of every tableau that a run of a capped program reaches
abbrev pub ReachedIsFeasible : Type 0
ReachedIsFeasible = (program : LinearProgram) (tableau : SimplexTableau) → IsReached program tableau → IsFeasible tableau

-- there the value of each column has a numerator not below 0 and a denominator above 0
abbrev pub ValuesAreNotNegative : Type 0
ValuesAreNotNegative = (program : LinearProgram) (tableau : SimplexTableau) → IsReached program tableau → (column : ℕ) (value : ℤ × ℤ) → IsValueOf tableau column value → (pos 0 ≤ℤ value.0) × (pos 0 <ℤ value.1)
