-- What a tableau of a run says of its program: its multipliers combine the rows into the objective, and its basic solution is one of the program.
use Rattle.std.specs.Prelude.{◌≡◌, ℕ, zero, suc, ◌<◌, ℤ, pos, ◌+ℤ◌, ◌*ℤ◌, ◌<ℤ◌, ◌≤ℤ◌}
use Rattle.row_definitions.specs.Rows.{entry}
use Rattle.pivot_definitions.specs.Programs.{LinearProgram, IsProgram, IsCapped, coefficient}
use Rattle.pivot_definitions.specs.Tableaus.{SimplexTableau, column_count, objective, multiplier_of, IsValueOf, built, kept}
use Rattle.pivot_definitions.specs.Runs.{IsBest, RunsTo}

-- the sum of what a function gives at the numbers below a bound
abbrev pub sum_below : ℕ → (ℕ → ℤ) → ℤ
sum_below zero f = pos 0
sum_below (suc n) f = sum_below n f +ℤ f n

-- a row's sum at a point: each coefficient times the column's number there
abbrev pub row_sum : LinearProgram → ℕ → (ℕ → ℤ) → ℤ
row_sum program row point = sum_below program.columns (λ column. coefficient program row column *ℤ point column)

-- a column's sum by multipliers of the rows
abbrev pub column_sum : LinearProgram → (ℕ → ℤ) → ℕ → ℤ
column_sum program multiplier column = sum_below program.rows (λ row. multiplier row *ℤ coefficient program row column)

-- the sum of the right sides by multipliers of the rows
abbrev pub right_side_sum : LinearProgram → (ℕ → ℤ) → ℤ
right_side_sum program multiplier = sum_below program.rows (λ row. multiplier row *ℤ entry program.right_sides row)

-- the objective: 1 in column 0 and 0 in every other
abbrev pub objective_of : ℕ → ℤ
objective_of zero = pos 1
objective_of (suc column) = pos 0

-- the rows by the tableau's multipliers, and its objective row, make a positive multiple of the objective
pub record CombinesToObjective (program : LinearProgram) (tableau : SimplexTableau) (scale : ℤ) : Type 0 where
  pub positive : pos 0 <ℤ scale
  pub columns : (column : ℕ) → column < program.columns → objective tableau column +ℤ column_sum program (multiplier_of tableau) column ≡ scale *ℤ objective_of column
  pub right_sides : objective tableau (column_count tableau) +ℤ right_side_sum program (multiplier_of tableau) ≡ pos 0

-- multipliers that are not negative and whose sum of the rows is nowhere below a positive multiple of the objective: so by them the right sides bound the objective
pub record BoundsObjective (program : LinearProgram) (multiplier : ℕ → ℤ) (scale : ℤ) : Type 0 where
  pub positive : pos 0 <ℤ scale
  pub not_negative : (row : ℕ) → row < program.rows → pos 0 ≤ℤ multiplier row
  pub covers : (column : ℕ) → column < program.columns → (scale *ℤ objective_of column) ≤ℤ column_sum program multiplier column

-- a point that is a whole number above 0 times the basic solution, in each column of the program
pub record IsSolutionTimes (program : LinearProgram) (tableau : SimplexTableau) (times : ℤ) (point : ℕ → ℤ) : Type 0 where
  pub positive : pos 0 <ℤ times
  pub values : (column : ℕ) → column < program.columns → (value : ℤ × ℤ) → IsValueOf tableau column value → value.1 *ℤ point column ≡ times *ℤ value.0

-- so many times a solution of the program: no column is negative, and no row's sum is above so many times its right side
pub record IsFeasibleTimes (program : LinearProgram) (times : ℤ) (point : ℕ → ℤ) : Type 0 where
  pub not_negative : (column : ℕ) → column < program.columns → pos 0 ≤ℤ point column
  pub satisfies : (row : ℕ) → row < program.rows → row_sum program row point ≤ℤ (times *ℤ entry program.right_sides row)

-- the tableau is the kept form of one that a run of the capped program reaches
abbrev pub IsReached : LinearProgram → SimplexTableau → Type 0
IsReached program tableau = IsProgram program × IsCapped program × (pivots : ℕ) × (plain : SimplexTableau) × RunsTo (built program) pivots plain × (tableau ≡ kept plain)

-- the multipliers of each tableau of a run combine the rows into the objective
abbrev pub RowsCombine : Type 0
RowsCombine = (program : LinearProgram) (tableau : SimplexTableau) → IsReached program tableau → (scale : ℤ) × CombinesToObjective program tableau scale

-- where nothing is left to choose, the multipliers are not negative and bound the objective
abbrev pub BestMultipliersBound : Type 0
BestMultipliersBound = (program : LinearProgram) (tableau : SimplexTableau) (scale : ℤ) → IsReached program tableau → CombinesToObjective program tableau scale → IsBest tableau → BoundsObjective program (multiplier_of tableau) scale

-- some whole number above 0 times the basic solution of each tableau of a run is whole in each column
abbrev pub BasicSolutionExists : Type 0
BasicSolutionExists = (program : LinearProgram) (tableau : SimplexTableau) → IsReached program tableau → (times : ℤ) × (point : ℕ → ℤ) × IsSolutionTimes program tableau times point

-- the basic solution of each tableau of a run is one of the program
abbrev pub BasicSolutionSatisfies : Type 0
BasicSolutionSatisfies = (program : LinearProgram) (tableau : SimplexTableau) (times : ℤ) (point : ℕ → ℤ) → IsReached program tableau → IsSolutionTimes program tableau times point → IsFeasibleTimes program times point

-- column 0 of the basic solution is the right sides' sum by the multipliers, so at the best it is as large as they let it be
abbrev pub LevelIsBound : Type 0
LevelIsBound = (program : LinearProgram) (tableau : SimplexTableau) (scale times : ℤ) (point : ℕ → ℤ) → IsReached program tableau → CombinesToObjective program tableau scale → IsSolutionTimes program tableau times point → scale *ℤ point 0 ≡ times *ℤ right_side_sum program (multiplier_of tableau)

-- no solution of the program has column 0 above what the multipliers make of the right sides
abbrev pub BoundHolds : Type 0
BoundHolds = (program : LinearProgram) (multiplier : ℕ → ℤ) (scale times : ℤ) (point : ℕ → ℤ) → IsProgram program → BoundsObjective program multiplier scale → IsFeasibleTimes program times point → (scale *ℤ point 0) ≤ℤ (times *ℤ right_side_sum program multiplier)
