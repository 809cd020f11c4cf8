-- Where a run, or any pivots, can end wide.
use Rattle.std.specs.Prelude.{◌≡◌, ℕ, zero, suc, ◌<◌, length}
use Rattle.pivot_definitions.specs.Programs.{LinearProgram, IsProgram, IsCapped, FitsEntries}
use Rattle.pivot_definitions.specs.Tableaus.{SimplexTableau, column_count, plain_pivot, built, kept, PivotFits, PivotPassesFirst}
use Rattle.pivot_definitions.specs.Runs.{CanLeave, EndsWide}

-- a pivot can be made in a constraint row and a column before the right side: the row's entry there is positive
pub record CanPivot (tableau : SimplexTableau) (row column : ℕ) : Type 0 where
  pub within : column < column_count tableau
  pub candidate : CanLeave tableau column row

-- so many plain pivots, by whatever rule, lead from the one tableau to the other, and none of them passes 128 bits in kept form
abbrev pub PivotsTo : SimplexTableau → ℕ → SimplexTableau → Type 0
PivotsTo start zero end = end ≡ start
PivotsTo start (suc pivots) end = (before : SimplexTableau) × PivotsTo start pivots before × (row : ℕ) × (column : ℕ) × CanPivot before row column × PivotFits (kept before) row column × (end ≡ plain_pivot before row column)

-- after any pivots from a program whose numbers an entry may have, where one more passes 128 bits, the first place is in a constraint row, never in the objective row
abbrev pub ObjectiveNeverPassesFirstByAnyRule : Type 0
ObjectiveNeverPassesFirstByAnyRule = (program : LinearProgram) → IsProgram program → FitsEntries program → (pivots row column at_row at_column : ℕ) (end : SimplexTableau) → PivotsTo (built program) pivots end → CanPivot end row column → PivotPassesFirst (kept end) row column at_row at_column → at_row < length end.basis

-- where a run of a capped program whose numbers an entry may have ends wide, the place is in a constraint row, never in the objective row
abbrev pub ObjectiveNeverPassesFirst : Type 0
ObjectiveNeverPassesFirst = (program : LinearProgram) → IsProgram program → IsCapped program → FitsEntries program → (budget pivots at_row at_column : ℕ) (end : SimplexTableau) → EndsWide (built program) budget pivots at_row at_column end → at_row < length end.basis
