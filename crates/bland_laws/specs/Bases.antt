-- The basis of a tableau.
use Rattle.std.specs.Prelude.{ℕ, ◌+◌, Bool, ◌==◌, List}
use Rattle.std.specs.List.{list_any, filter, range_with_len}
use Rattle.pivot_definitions.specs.Programs.{LinearProgram}
use Rattle.pivot_definitions.specs.Tableaus.{SimplexTableau, column_count}
use Rattle.bland_laws.specs.Ways.{ways}

-- whether a column is basic in a row of the tableau
abbrev pub is_basic : SimplexTableau → ℕ → Bool
is_basic tableau column = list_any (λ basic. basic == column) tableau.basis

-- the basis: the basic columns in rising order, whatever the rows in which they are basic
abbrev pub basis_of : SimplexTableau → List ℕ
basis_of tableau = filter (is_basic tableau) (range_with_len 0 (column_count tableau))

-- how many bases a program's tableaus can have: the ways to choose as many of its columns and slack columns as it has rows
abbrev pub basis_count : LinearProgram → ℕ
basis_count program = ways (program.columns + program.rows) program.rows
