-- A tableau whose rows are condensed, the tableau that it stands for, and its pivots.
use Rattle.std.specs.Prelude.{◌≡◌, ℕ, suc, ◌+◌, ◌<◌, List, [], ◌∷◌, ◌++◌, length, map, replicate, slice_index, slice_index_or, slice_set, ℤ, pos}
use Rattle.std.specs.List.{range_with_len}
use Rattle.pivot_definitions.specs.Programs.{LinearProgram, coefficient_row}
use Rattle.row_definitions.specs.Rows.{entry}
use Rattle.row_definitions.specs.Combination.{combined}
use Rattle.pivot_definitions.specs.Tableaus.{SimplexTableau, others_combined}
use Rattle.condensed_laws.specs.Wholes.{whole, IsShown}
use Rattle.condensed_laws.specs.Heads.{places, lent, moved, swapped, moved_heads, IsCondensed}

-- the condensed rows, the objective row being the last, the basic column of each constraint row, and each column's head
pub record CondensedTableau : Type 0 where
  pub columns : ℕ
  pub rows : List (List ℤ)
  pub basis : List ℕ
  pub heads : List ℕ

-- the whole rows of condensed rows, the first of which has this number
abbrev pub wholes : ℕ → List ℕ → ℕ → List (List ℤ) → List (List ℤ)
wholes width heads own [] = []
wholes width heads own (row ∷ rows) = whole (places width own heads) row ∷ wholes width heads (suc own) rows

-- the tableau that it stands for
abbrev pub expanded : CondensedTableau → SimplexTableau
expanded t = record { columns = t.columns; rows = wholes t.columns t.heads 0 t.rows; basis = t.basis }

-- a condensed row by its number
abbrev pub condensed_row : CondensedTableau → ℕ → List ℤ
condensed_row t row = slice_index_or t.rows row []

-- each row is condensed; each column has a head of its own, which says where it is; and the objective row has no basic column
pub record IsSound (t : CondensedTableau) : Type 0 where
  pub row_count : length t.rows ≡ length t.basis + 1
  pub head_count : length t.heads ≡ t.columns + length t.basis
  pub condensed : (row : ℕ) → row < length t.rows → IsCondensed t.columns (condensed_row t row)
  pub heads_within : (column : ℕ) → column < length t.heads → slice_index t.heads column < t.columns + length t.basis
  pub one_column : (column other : ℕ) → column < length t.heads → other < length t.heads → slice_index t.heads column ≡ slice_index t.heads other → column ≡ other
  pub places_shown : (place : ℕ) → place < t.columns → IsShown t.heads place
  pub basis_within : (row : ℕ) → row < length t.basis → slice_index t.basis row < length t.heads
  pub basic_head : (row : ℕ) → row < length t.basis → slice_index t.heads (slice_index t.basis row) ≡ t.columns + row
  pub objective_own : entry (condensed_row t (length t.basis)) (t.columns + 1) ≡ pos 0

-- what another row becomes in a pivot: combined with the pivot row as it is lent, and then the leaving column takes the place
abbrev pub pivoted_row : ℕ → ℕ → List ℤ → List ℤ → List ℤ
pivoted_row width place pivot target = moved width place (combined target (lent width pivot) place)

-- a pivot of condensed rows
abbrev pub condensed_pivot : CondensedTableau → ℕ → ℕ → CondensedTableau
condensed_pivot t row column =
    let place = slice_index t.heads column in
    let pivot = condensed_row t row in
    record {
      columns = t.columns;
      rows = slice_set (others_combined (pivoted_row t.columns place pivot) t.rows row) row (swapped t.columns place pivot);
      basis = slice_set t.basis row column;
      heads = moved_heads t.columns row (slice_index t.basis row) column place t.heads;
    }

-- a constraint row as built: the coefficients, the right side, and 1 in its own slack column
abbrev pub condensed_built_row : LinearProgram → ℕ → List ℤ
condensed_built_row program row = coefficient_row program row ++ entry program.right_sides row ∷ pos 1 ∷ pos 0 ∷ []

-- the objective row as built: 1 in column 0 and 0 elsewhere
abbrev pub condensed_built_objective : LinearProgram → List ℤ
condensed_built_objective program = pos 1 ∷ replicate (program.columns + 2) (pos 0)

-- the condensed tableau as built: the slack columns are basic, so each column is its own head
abbrev pub condensed_built : LinearProgram → CondensedTableau
condensed_built program = record {
  columns = program.columns;
  rows = map (condensed_built_row program) (range_with_len 0 program.rows) ++ condensed_built_objective program ∷ [];
  basis = range_with_len program.columns program.rows;
  heads = range_with_len 0 (program.columns + program.rows);
}
