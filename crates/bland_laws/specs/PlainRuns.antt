-- Runs by Bland's rule over whole numbers without bound, whatever their size.
use Rattle.std.specs.Prelude.{◌≡◌, ℕ, zero, suc}
use Rattle.pivot_definitions.specs.Tableaus.{SimplexTableau, plain_pivot}
use Rattle.pivot_definitions.specs.Runs.{IsChoice}

-- so many plain pivots by Bland's rule lead from the one tableau to the other
abbrev pub PlainRunsTo : SimplexTableau → ℕ → SimplexTableau → Type 0
PlainRunsTo start zero end = end ≡ start
PlainRunsTo start (suc pivots) end = (before : SimplexTableau) × PlainRunsTo start pivots before × (row : ℕ) × (column : ℕ) × IsChoice before row column × (end ≡ plain_pivot before row column)
