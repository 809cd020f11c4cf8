-- Linear programs in whole numbers: column 0 is to be as large as possible, where no column is below 0 and each row's sum is at most its right side.
use Rattle.std.specs.Prelude.{◌≡◌, ℕ, ◌-◌, ◌*◌, ◌<◌, ◌≤◌, List, ◌∷◌, ◌++◌, length, take, drop, replicate, ℤ, pos, ◌≤ℤ◌}
use Rattle.std.specs.List.{All}
use Rattle.row_definitions.specs.Rows.{entry}
use Rattle.row_definitions.specs.Combination.{FitsEntry}
use Rattle.pivot_definitions.specs.declared.limits.TheConstants.{MOST_COLUMNS, MOST_ROWS}

-- a program by its coefficients, row by row, and the right side of each row
pub record LinearProgram : Type 0 where
  pub columns : ℕ
  pub rows : ℕ
  pub coefficients : List ℤ
  pub right_sides : List ℤ

-- the coefficients of a row
abbrev pub coefficient_row : LinearProgram → ℕ → List ℤ
coefficient_row program row = take program.columns (drop (row * program.columns) program.coefficients)

-- the coefficient of a column in a row
abbrev pub coefficient : LinearProgram → ℕ → ℕ → ℤ
coefficient program row column = entry (coefficient_row program row) column

-- the program has rows and columns, a coefficient for each place and a right side for each row, and no right side is below 0
pub record IsProgram (program : LinearProgram) : Type 0 where
  pub some_column : 0 < program.columns
  pub some_row : 0 < program.rows
  pub every_coefficient : length program.coefficients ≡ program.columns * program.rows
  pub every_right_side : length program.right_sides ≡ program.rows
  pub not_negative : All (λ x. pos 0 ≤ℤ x) program.right_sides

-- the program's numbers are those that an entry may have
pub record FitsEntries (program : LinearProgram) : Type 0 where
  pub coefficients : All FitsEntry program.coefficients
  pub right_sides : All FitsEntry program.right_sides

-- a program of at most MOST_COLUMNS columns and MOST_ROWS rows whose numbers an entry may have
pub record IsWithinLimits (program : LinearProgram) : Type 0 where
  pub few_columns : program.columns ≤ MOST_COLUMNS
  pub few_rows : program.rows ≤ MOST_ROWS
  pub program_holds : IsProgram program
  pub numbers_fit : FitsEntries program

-- a row of so many entries with 1 in a column and 0 elsewhere
abbrev pub unit_row : ℕ → ℕ → List ℤ
unit_row width column = replicate column (pos 0) ++ pos 1 ∷ replicate (width - 1 - column) (pos 0)

-- the last row says that column 0 is at most 1
pub record IsCapped (program : LinearProgram) : Type 0 where
  pub cap : coefficient_row program (program.rows - 1) ≡ unit_row program.columns 0
  pub at_most_one : entry program.right_sides (program.rows - 1) ≡ pos 1
