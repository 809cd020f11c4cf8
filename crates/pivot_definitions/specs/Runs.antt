-- Runs of pivots by Bland's rule, and their ends.
use Rattle.std.specs.Prelude.{◌≡◌, ◌≢◌, ℕ, zero, suc, ◌<◌, ◌≤◌, ◌⊎◌, length, pos, ◌<ℤ◌, ◌≤ℤ◌, ◌*ℤ◌}
use Rattle.pivot_definitions.specs.Tableaus.{SimplexTableau, column_count, entry_at, right_side, objective, basic_column, plain_pivot, kept, PivotFits, PivotPassesFirst}

-- no entry of the objective row but the right side's is above 0: nothing is left to choose
abbrev pub IsBest : SimplexTableau → Type 0
IsBest tableau = (column : ℕ) → column < column_count tableau → objective tableau column ≤ℤ pos 0

-- the entering column: the lowest with a positive entry in the objective row
pub record Enters (tableau : SimplexTableau) (column : ℕ) : Type 0 where
  pub within : column < column_count tableau
  pub positive : pos 0 <ℤ objective tableau column
  pub lowest : (lower : ℕ) → lower < column → objective tableau lower ≤ℤ pos 0

-- a constraint row can be the pivot row of a column: its entry there is positive
pub record CanLeave (tableau : SimplexTableau) (column row : ℕ) : Type 0 where
  pub within : row < length tableau.basis
  pub positive : pos 0 <ℤ entry_at tableau row column

-- a row's ratio of right side to entry in a column is below another's, or both are equal and its basic column is the lower
abbrev pub ComesBefore : SimplexTableau → ℕ → ℕ → ℕ → Type 0
ComesBefore tableau column row other =
    let here = right_side tableau row *ℤ entry_at tableau other column in
    let there = right_side tableau other *ℤ entry_at tableau row column in
    (here <ℤ there) ⊎ ((here ≡ there) × (basic_column tableau row < basic_column tableau other))

-- the pivot row of a column: of the rows with a positive entry there, that of the least ratio, and of equal ratios that of the lowest basic column
pub record Leaves (tableau : SimplexTableau) (column row : ℕ) : Type 0 where
  pub candidate : CanLeave tableau column row
  pub least : (other : ℕ) → CanLeave tableau column other → other ≢ row → ComesBefore tableau column row other

-- Bland's choice of a pivot
pub record IsChoice (tableau : SimplexTableau) (row column : ℕ) : Type 0 where
  pub enters : Enters tableau column
  pub leaves : Leaves tableau column row

-- so many plain pivots by Bland's rule lead from the one tableau to the other, and none of them passes 128 bits in kept form
abbrev pub RunsTo : SimplexTableau → ℕ → SimplexTableau → Type 0
RunsTo start zero end = end ≡ start
RunsTo start (suc pivots) end = (before : SimplexTableau) × RunsTo start pivots before × (row : ℕ) × (column : ℕ) × IsChoice before row column × PivotFits (kept before) row column × (end ≡ plain_pivot before row column)

-- a choice of a pivot remains
abbrev pub HasChoice : SimplexTableau → Type 0
HasChoice tableau = (row : ℕ) × (column : ℕ) × IsChoice tableau row column

-- the run makes so many pivots, at most the budget, and then nothing is left to choose
pub record EndsBest (start : SimplexTableau) (budget pivots : ℕ) (end : SimplexTableau) : Type 0 where
  pub within_budget : pivots ≤ budget
  pub run : RunsTo start pivots end
  pub best : IsBest end

-- the run makes so many pivots, fewer than the budget, and the next pivot passes 128 bits first at this place
pub record EndsWide (start : SimplexTableau) (budget pivots at_row at_column : ℕ) (end : SimplexTableau) : Type 0 where
  pub within_budget : pivots < budget
  pub run : RunsTo start pivots end
  pub row : ℕ
  pub column : ℕ
  pub choice : IsChoice end row column
  pub passes : PivotPassesFirst (kept end) row column at_row at_column

-- the run makes as many pivots as the budget, and a choice remains
pub record EndsOutOfPivots (start : SimplexTableau) (budget pivots : ℕ) (end : SimplexTableau) : Type 0 where
  pub whole_budget : pivots ≡ budget
  pub run : RunsTo start budget end
  pub choice : HasChoice end

-- Bland's rule leaves no choice
abbrev pub ChoiceIsOne : Type 0
ChoiceIsOne = (tableau : SimplexTableau) (row column other_row other_column : ℕ) → IsChoice tableau row column → IsChoice tableau other_row other_column → (row ≡ other_row) × (column ≡ other_column)

-- so many pivots from a tableau lead to one tableau
abbrev pub RunIsOne : Type 0
RunIsOne = (start : SimplexTableau) (pivots : ℕ) (end other : SimplexTableau) → RunsTo start pivots end → RunsTo start pivots other → end ≡ other
