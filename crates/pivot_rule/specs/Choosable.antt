-- What a choice of a pivot needs to know of a tableau.
use Rattle.std.specs.Prelude.{◌≢◌, ℕ, ◌<◌, length}
use Rattle.pivot_definitions.specs.Tableaus.{SimplexTableau, basic_column}
use Rattle.pivot_definitions.specs.Runs.{Enters, CanLeave}
use Rattle.pivot_definitions.specs.Feasible.{HasNoNegativeRightSide}

-- no two rows have one basic column
abbrev pub HasDistinctBasis : SimplexTableau → Type 0
HasDistinctBasis tableau = (row other : ℕ) → row < length tableau.basis → other < length tableau.basis → row ≢ other → basic_column tableau row ≢ basic_column tableau other

-- a column that can enter has a positive entry in a constraint row
abbrev pub IsBounded : SimplexTableau → Type 0
IsBounded tableau = (column : ℕ) → Enters tableau column → (row : ℕ) × CanLeave tableau column row

-- a choice can be made
pub record IsChoosable (tableau : SimplexTableau) : Type 0 where
  pub right_sides : HasNoNegativeRightSide tableau
  pub distinct : HasDistinctBasis tableau
  pub bounded : IsBounded tableau
