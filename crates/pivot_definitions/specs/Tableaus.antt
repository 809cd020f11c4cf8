-- The simplex tableau of a program, over whole numbers without bound, and its pivots, in which nothing is divided.
use Rattle.std.specs.Prelude.{◌≡◌, ◌≢◌, ℕ, suc, ◌+◌, ◌<◌, ◌≤◌, ◌==◌, List, [], ◌∷◌, ◌++◌, length, map, take, drop, replicate, slice_index, slice_index_or, slice_set, position, MatchOption, ℤ, pos, neg_ℤ, ◌<ℤ◌}
use Rattle.std.specs.List.{All, range_with_len}
use Rattle.row_definitions.specs.Rows.{entry, primitive_row}
use Rattle.row_definitions.specs.Combination.{FitsEntry, plain_combination, PassesNowhere, PassesFirst}
use Rattle.pivot_definitions.specs.Programs.{LinearProgram, coefficient_row, unit_row}
use Rattle.pivot_definitions.specs.declared.limits.TheConstants.{MOST_COLUMNS, MOST_ROWS}

-- a tableau: the constraint rows and, last, the objective row, over the program's columns, a slack column for each constraint row and the right side; and the basic column of each constraint row
pub record SimplexTableau : Type 0 where
  pub columns : ℕ
  pub rows : List (List ℤ)
  pub basis : List ℕ

-- how many columns there are before the right side
abbrev pub column_count : SimplexTableau → ℕ
column_count tableau = tableau.columns + length tableau.basis

-- a row by its number
abbrev pub row_at : SimplexTableau → ℕ → List ℤ
row_at tableau row = slice_index_or tableau.rows row []

-- the entry of a row in a column
abbrev pub entry_at : SimplexTableau → ℕ → ℕ → ℤ
entry_at tableau row column = entry (row_at tableau row) column

-- the right side of a row
abbrev pub right_side : SimplexTableau → ℕ → ℤ
right_side tableau row = entry_at tableau row (column_count tableau)

-- the entry of the objective row in a column
abbrev pub objective : SimplexTableau → ℕ → ℤ
objective tableau column = entry_at tableau (length tableau.basis) column

-- the column that is basic in a constraint row
abbrev pub basic_column : SimplexTableau → ℕ → ℕ
basic_column tableau row = slice_index tableau.basis row

-- the multiplier of a constraint row: the negative of the objective row's entry in the row's slack column
abbrev pub multiplier_of : SimplexTableau → ℕ → ℤ
multiplier_of tableau row = neg_ℤ (objective tableau (tableau.columns + row))

-- the value of a column in the basic solution, a numerator and a denominator: the right side and the entry of the row in which it is basic, or 0 and 1
abbrev pub IsValueOf : SimplexTableau → ℕ → ℤ × ℤ → Type 0
IsValueOf tableau column value = MatchOption (position (λ basic. basic == column) tableau.basis) (value ≡ (pos 0, pos 1)) (λ row. value ≡ (right_side tableau row, entry_at tableau row column))

-- each row has an entry for each column and the right side, there is a basic column for each row but the objective, and it is none past the slack columns
pub record IsTableau (tableau : SimplexTableau) : Type 0 where
  pub row_count : length tableau.rows ≡ length tableau.basis + 1
  pub widths : All (λ row. length row ≡ column_count tableau + 1) tableau.rows
  pub basic_columns : All (λ column. column < column_count tableau) tableau.basis

-- each entry is a number that an entry may be
abbrev pub HasFittingEntries : SimplexTableau → Type 0
HasFittingEntries tableau = All (λ row. All FitsEntry row) tableau.rows

-- each row is its own kept form
abbrev pub HasPrimitiveRows : SimplexTableau → Type 0
HasPrimitiveRows tableau = All (λ row. primitive_row row ≡ row) tableau.rows

-- each basic column is positive in its row, and 0 in every other
pub record IsCanonical (tableau : SimplexTableau) : Type 0 where
  pub positive : (row : ℕ) → row < length tableau.basis → pos 0 <ℤ entry_at tableau row (basic_column tableau row)
  pub zero_elsewhere : (row other : ℕ) → row < length tableau.basis → other < length tableau.rows → other ≢ row → entry_at tableau other (basic_column tableau row) ≡ pos 0

-- a tableau of 1 to MOST_COLUMNS columns and 1 to MOST_ROWS rows, in kept and canonical form and with entries that fit
pub record IsKeptTableau (tableau : SimplexTableau) : Type 0 where
  pub some_column : 0 < tableau.columns
  pub some_row : 0 < length tableau.basis
  pub few_columns : tableau.columns ≤ MOST_COLUMNS
  pub few_rows : length tableau.basis ≤ MOST_ROWS
  pub shape : IsTableau tableau
  pub fits : HasFittingEntries tableau
  pub primitive : HasPrimitiveRows tableau
  pub canonical : IsCanonical tableau

-- a tableau of no columns and no rows, which stands for no program
abbrev pub empty_tableau : SimplexTableau
empty_tableau = record { columns = 0; rows = []; basis = [] }

-- a tableau in kept and canonical form, or an empty one
pub record IsKeptOrEmpty (tableau : SimplexTableau) : Type 0 where
  pub kept : 0 < column_count tableau → IsKeptTableau tableau
  pub empty : column_count tableau ≡ 0 → length tableau.rows ≡ 0

-- one tableau has as many columns and rows as the other
abbrev pub HasSameShape : SimplexTableau → SimplexTableau → Type 0
HasSameShape before after = (after.columns ≡ before.columns) × (length after.basis ≡ length before.basis)

-- constraint row `row` as built: the coefficients, 1 in the row's slack column and 0 in the others, and the right side
abbrev pub built_row : LinearProgram → ℕ → List ℤ
built_row program row = coefficient_row program row ++ unit_row program.rows row ++ entry program.right_sides row ∷ []

-- the objective row as built: 1 in column 0 and 0 elsewhere
abbrev pub built_objective : LinearProgram → List ℤ
built_objective program = pos 1 ∷ replicate (program.columns + program.rows) (pos 0)

-- the tableau as built: the slack columns are basic
abbrev pub built : LinearProgram → SimplexTableau
built program = record {
  columns = program.columns;
  rows = map (built_row program) (range_with_len 0 program.rows) ++ built_objective program ∷ [];
  basis = range_with_len program.columns program.rows;
}

-- every row but one becomes what `combine` makes of it and that one
abbrev pub others_combined : (List ℤ → List ℤ) → List (List ℤ) → ℕ → List (List ℤ)
others_combined combine rows row = map combine (take row rows) ++ slice_index_or rows row [] ∷ map combine (drop (suc row) rows)

-- a plain pivot: every other row becomes 0 in the column by the plain combination with the pivot row, and the column becomes basic in the pivot row
abbrev pub plain_pivot : SimplexTableau → ℕ → ℕ → SimplexTableau
plain_pivot tableau row column = record {
  columns = tableau.columns;
  rows = others_combined (λ target. plain_combination target (row_at tableau row) column) tableau.rows row;
  basis = slice_set tableau.basis row column;
}

-- the kept form: each row divided by the greatest common divisor of its entries
abbrev pub kept : SimplexTableau → SimplexTableau
kept plain = record { columns = plain.columns; rows = map primitive_row plain.rows; basis = plain.basis }

-- whatever plain tableau the one is the kept form of, the other is the kept form of its plain pivot
abbrev pub IsKeptPivot : SimplexTableau → ℕ → ℕ → SimplexTableau → Type 0
IsKeptPivot before row column after = (plain : SimplexTableau) → kept plain ≡ before → after ≡ kept (plain_pivot plain row column)

-- in a pivot of a kept form no product and no difference passes 128 bits
abbrev pub PivotFits : SimplexTableau → ℕ → ℕ → Type 0
PivotFits tableau row column = (other : ℕ) → other < length tableau.rows → other ≢ row → PassesNowhere (row_at tableau other) (row_at tableau row) column

-- the first place where a pivot of a kept form passes 128 bits: the first row, and in it the first column
pub record PivotPassesFirst (tableau : SimplexTableau) (row column at_row at_column : ℕ) : Type 0 where
  pub within : at_row < length tableau.rows
  pub another : at_row ≢ row
  pub passes : PassesFirst (row_at tableau at_row) (row_at tableau row) column at_column
  pub fits_before : (other : ℕ) → other < at_row → other ≢ row → PassesNowhere (row_at tableau other) (row_at tableau row) column
