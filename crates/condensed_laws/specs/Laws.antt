-- Laws of condensed rows.
use Rattle.std.specs.Prelude.{◌≡◌, ◌↔◌, ℕ, ◌+◌, ◌<◌, List, length, slice_index, ℤ}
use Rattle.std.specs.List.{All, Contains}
use Rattle.row_definitions.specs.Rows.{entry, primitive_row}
use Rattle.pivot_definitions.specs.Programs.{LinearProgram, IsProgram}
use Rattle.pivot_definitions.specs.Tableaus.{HasFittingEntries, HasPrimitiveRows, built}
use Rattle.pivot_definitions.specs.Laws.{kept_pivot}
use Rattle.row_definitions.specs.Combination.{combined, FitsEntry, FitsAt, PassesNowhere}
use Rattle.condensed_laws.specs.Wholes.{whole, ShowEach}
use Rattle.condensed_laws.specs.Heads.{places, pivot_places, lent, moved, swapped, moved_heads, CanSwap, ArePivotRows}
use Rattle.condensed_laws.specs.Tableaus.{CondensedTableau, IsSound, expanded, condensed_pivot, condensed_built}

-- to combine whole rows in a column gives the whole row of the combination of the condensed rows at the column's place
abbrev pub CombinedOfWholes : Type 0
CombinedOfWholes = (places : List ℕ) (target pivot : List ℤ) (column : ℕ) → length target ≡ length pivot → column < length places → ShowEach places target pivot → combined (whole places target) (whole places pivot) column ≡ whole places (combined target pivot (slice_index places column))

-- the combination of whole rows fits in a column just where that of the condensed rows fits at the column's place
abbrev pub FitsOfWholes : Type 0
FitsOfWholes = (places : List ℕ) (target pivot : List ℤ) (at column : ℕ) → at < length places → column < length places → FitsAt (whole places target) (whole places pivot) at column ↔ FitsAt target pivot (slice_index places at) (slice_index places column)

-- the combination of whole rows passes nowhere just where that of the condensed rows passes nowhere
abbrev pub PassesNowhereOfWholes : Type 0
PassesNowhereOfWholes = (places : List ℕ) (target pivot : List ℤ) (at : ℕ) → length target ≡ length pivot → at < length places → ShowEach places target pivot → PassesNowhere (whole places target) (whole places pivot) at ↔ PassesNowhere target pivot (slice_index places at)

-- in a pivot a row becomes, by condensed rows and the new heads, what it becomes by whole rows
abbrev pub TargetOfPivot : Type 0
TargetOfPivot = (width own pivot leaving entering place : ℕ) (heads : List ℕ) (target row : List ℤ) → ArePivotRows width own pivot leaving entering place heads target row → whole (places width own (moved_heads width pivot leaving entering place heads)) (moved width place (combined target (lent width row) place)) ≡ combined (whole (places width own heads) target) (whole (places width pivot heads) row) entering

-- and the pivot row is the same by the new heads
abbrev pub PivotRowStays : Type 0
PivotRowStays = (width pivot leaving entering place : ℕ) (heads : List ℕ) (row : List ℤ) → length row ≡ width + 3 → CanSwap width pivot leaving entering place heads → whole (places width pivot (moved_heads width pivot leaving entering place heads)) (swapped width place row) ≡ whole (places width pivot heads) row

-- the condensed rows pass nowhere just where the whole rows do
abbrev pub PivotPassesNowhere : Type 0
PivotPassesNowhere = (width own pivot leaving entering place : ℕ) (heads : List ℕ) (target row : List ℤ) → ArePivotRows width own pivot leaving entering place heads target row → PassesNowhere (whole (places width own heads) target) (whole (places width pivot heads) row) entering ↔ PassesNowhere target (lent width row) place

-- and in each column they fit just where the whole rows do
abbrev pub PivotFitsAt : Type 0
PivotFitsAt = (width own pivot leaving entering place : ℕ) (heads : List ℕ) (target row : List ℤ) → ArePivotRows width own pivot leaving entering place heads target row → (column : ℕ) → column < length heads + 1 → FitsAt (whole (places width own heads) target) (whole (places width pivot heads) row) entering column ↔ FitsAt target (lent width row) place (slice_index (pivot_places width own pivot heads) column)

-- a pivot in a column that is not basic: the condensed tableau then stands for the pivot of the tableau that it stood for
abbrev pub PivotOfCondensed : Type 0
PivotOfCondensed = (t : CondensedTableau) (row column : ℕ) → IsSound t → row < length t.basis → column < length t.heads → ¬ Contains t.basis column → expanded (condensed_pivot t row column) ≡ kept_pivot (expanded t) row column

-- and it is sound
abbrev pub PivotStaysSound : Type 0
PivotStaysSound = (t : CondensedTableau) (row column : ℕ) → IsSound t → row < length t.basis → column < length t.heads → ¬ Contains t.basis column → IsSound (condensed_pivot t row column)

-- if the entries of the whole rows fit, those of the condensed rows do
abbrev pub CondensedRowsFit : Type 0
CondensedRowsFit = (t : CondensedTableau) → IsSound t → HasFittingEntries (expanded t) → All (λ row. All FitsEntry row) t.rows

-- if the whole rows are primitive, the condensed rows are
abbrev pub CondensedRowsArePrimitive : Type 0
CondensedRowsArePrimitive = (t : CondensedTableau) → IsSound t → HasPrimitiveRows (expanded t) → All (λ row. primitive_row row ≡ row) t.rows

-- as it is lent, the pivot row fits and is primitive if its whole row is so, and has at the place the whole row's entry in the entering column
abbrev pub LentRowIsLikeWhole : Type 0
LentRowIsLikeWhole = (width own pivot leaving entering place : ℕ) (heads : List ℕ) (target row : List ℤ) → ArePivotRows width own pivot leaving entering place heads target row
    → (All FitsEntry (whole (places width pivot heads) row) → All FitsEntry (lent width row))
    × (primitive_row (whole (places width pivot heads) row) ≡ whole (places width pivot heads) row → primitive_row (lent width row) ≡ lent width row)
    × (entry (lent width row) place ≡ entry (whole (places width pivot heads) row) entering)

-- the condensed tableau of a program as built stands for the tableau as built, and is sound
abbrev pub BuiltOfCondensed : Type 0
BuiltOfCondensed = (program : LinearProgram) → IsProgram program → (expanded (condensed_built program) ≡ built program) × IsSound (condensed_built program)
