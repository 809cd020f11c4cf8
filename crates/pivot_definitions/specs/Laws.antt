-- Laws of tableaus and their kept forms.
use Rattle.std.specs.Prelude.{◌≡◌, ◌↔◌, ◌<◌, ℕ, length, slice_set, ℤ, pos, ◌*ℤ◌, ◌<ℤ◌}
use Rattle.row_definitions.specs.Combination.{combined}
use Rattle.pivot_definitions.specs.Tableaus.{SimplexTableau, row_at, entry_at, others_combined, plain_pivot, kept}
use Rattle.pivot_definitions.specs.Runs.{IsBest, IsChoice}

-- the pivot of a kept form: every other row becomes the kept form of the combination
abbrev pub kept_pivot : SimplexTableau → ℕ → ℕ → SimplexTableau
kept_pivot tableau row column = record {
  columns = tableau.columns;
  rows = others_combined (λ target. combined target (row_at tableau row) column) tableau.rows row;
  basis = slice_set tableau.basis row column;
}

-- the kept form of a plain pivot is the pivot of the kept form
abbrev pub KeptPivot : Type 0
KeptPivot = (plain : SimplexTableau) (row column : ℕ) → row < length plain.rows → pos 0 <ℤ entry_at plain row column → kept (plain_pivot plain row column) ≡ kept_pivot (kept plain) row column

-- a row of a tableau is the same row of another times a number above 0, the right side with it
pub record IsRowMultiple (tableau of : SimplexTableau) (row : ℕ) : Type 0 where
  pub factor : ℤ
  pub positive : pos 0 <ℤ factor
  pub entries : (column : ℕ) → entry_at tableau row column ≡ factor *ℤ entry_at of row column

-- each row of a plain tableau is a positive multiple of its kept form's
abbrev pub KeptRowsAreMultiples : Type 0
KeptRowsAreMultiples = (plain : SimplexTableau) (row : ℕ) → IsRowMultiple plain (kept plain) row

-- Bland's choices in a plain tableau are those in its kept form
abbrev pub SameChoices : Type 0
SameChoices = (plain : SimplexTableau) (row column : ℕ) → IsChoice plain row column ↔ IsChoice (kept plain) row column

-- in a plain tableau nothing is left to choose just where nothing is in its kept form
abbrev pub SameBest : Type 0
SameBest = (plain : SimplexTableau) → IsBest plain ↔ IsBest (kept plain)
