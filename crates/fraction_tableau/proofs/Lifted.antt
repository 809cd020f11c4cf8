-- What is known of condensed rows, of the tableau that they stand for.
use Rattle.std.proofs.Common.{◌≡◌, ◌≢◌, ◌↔◌, ℕ, ◌+◌, ◌<◌, List, [], length, map, get_or, ℤ, pos, refl, sym, ap, ap₂, subst, subst₂, ◌∙◌, arith}
use lib.Signed.{◌<ℤ◌}
use Rattle.std.specs.List.{Contains, range_with_len}
use Rattle.std.proofs.lemmas.List.{length-map}
use Rattle.row_definitions.specs.Rows.{entry}
use Rattle.row_definitions.specs.Combination.{FitsAt, PassesNowhere, PassesFirst}
use Rattle.pivot_definitions.specs.Programs.{LinearProgram, IsWithinLimits}
use Rattle.pivot_definitions.specs.Tableaus.{built, built_row, built_objective, SimplexTableau, IsKeptTableau, IsKeptOrEmpty, row_at, entry_at, column_count, IsKeptPivot, PivotFits, PivotPassesFirst}
use Rattle.pivot_definitions.specs.Laws.{kept_pivot}
use Rattle.pivot_definitions.proofs.KeptPivots.{kept_pivot_kept, is_kept_pivot}
use Rattle.pivot_definitions.proofs.Start.{built_facts}
use Rattle.condensed_laws.specs.Wholes.{whole}
use Rattle.condensed_laws.specs.Heads.{place_by, places, pivot_places}
use Rattle.condensed_laws.specs.Tableaus.{CondensedTableau, IsSound, expanded, condensed_row, condensed_pivot, condensed_built}
use Rattle.condensed_laws.proofs.Tableaus.{length-wholes, whole_row, pivot_rows, pivot_of_condensed}
use Rattle.condensed_laws.proofs.PivotRows.{place_count, pivot_passes_nowhere, pivot_fits_at}
use Rattle.condensed_laws.proofs.Sound.{pivot_stays_sound}
use Rattle.condensed_laws.proofs.Built.{built_of_condensed}
use Rattle.fraction_tableau.specs.Condensed.{empty_condensed, CondensedFits, CondensedPassesFirst, lent_row, place_of}
use Rattle.fraction_tableau.specs.Kept.{StandsForKept}

-- a pivot of what stands for a tableau: its columns are those of the tableau, the column is not basic, and its entry in the row is above 0
pub record IsPivot (t : CondensedTableau) (row column : ℕ) : Type 0 where
  pub sound : IsSound t
  pub kept : IsKeptTableau (expanded t)
  pub row_within : row < length t.basis
  pub column_within : column < length t.heads
  pub not_basic : ¬ Contains t.basis column
  pub positive : pos 0 <ℤ entry_at (expanded t) row column

-- a fact of two rows at the whole rows
at_wholes : (P : List ℤ → List ℤ → Type 0) (t : CondensedTableau) (other row : ℕ) → other < length t.rows → row < length t.rows
    → P (whole (places t.columns other t.heads) (condensed_row t other)) (whole (places t.columns row t.heads) (condensed_row t row)) → P (row_at (expanded t) other) (row_at (expanded t) row)
at_wholes P t other row other_within row_within h = subst₂ P (sym (whole_row t.columns t.heads t.rows other other_within)) (sym (whole_row t.columns t.heads t.rows row row_within)) h

from_wholes : (P : List ℤ → List ℤ → Type 0) (t : CondensedTableau) (other row : ℕ) → other < length t.rows → row < length t.rows
    → P (row_at (expanded t) other) (row_at (expanded t) row) → P (whole (places t.columns other t.heads) (condensed_row t other)) (whole (places t.columns row t.heads) (condensed_row t row))
from_wholes P t other row other_within row_within h = subst₂ P (whole_row t.columns t.heads t.rows other other_within) (whole_row t.columns t.heads t.rows row row_within) h

row_count : (t : CondensedTableau) (row column : ℕ) → IsPivot t row column → row < length t.rows
row_count t row column is = let inside = is.row_within in omega (arith, is.sound.row_count)

nowhere_lifted : (t : CondensedTableau) (row column : ℕ) → IsPivot t row column → (other : ℕ) → other < length t.rows → other ≢ row → PassesNowhere (condensed_row t other) (lent_row t row) (place_of t column) → PassesNowhere (row_at (expanded t) other) (row_at (expanded t) row) column
nowhere_lifted t row column is other within another nowhere =
    at_wholes (λ x y. PassesNowhere x y column) t other row within (row_count t row column is)
    ((pivot_passes_nowhere t.columns other row (get_or t.basis row 0) column (place_of t column) t.heads (condensed_row t other) (condensed_row t row) (pivot_rows t row column is.sound is.row_within is.column_within is.not_basic other within another)).1 nowhere)

-- where a pivot of the condensed rows passes nowhere, that of the tableau passes nowhere
pub fits_lifted : (t : CondensedTableau) (row column : ℕ) → IsPivot t row column → CondensedFits t row column → PivotFits (expanded t) row column
fits_lifted t row column is fits other within another =
    let inside : other < length t.rows = subst (λ n. other < n) (length-wholes t.columns t.heads 0 t.rows) within in
    nowhere_lifted t row column is other inside another (fits other inside another)

-- and both pass first at one place
pub passes_lifted : (t : CondensedTableau) (row column at_row at_column : ℕ) → IsPivot t row column → CondensedPassesFirst t row column at_row at_column → PivotPassesFirst (expanded t) row column at_row at_column
passes_lifted t row column at_row at_column is first =
    let rows = pivot_rows t row column is.sound is.row_within is.column_within is.not_basic at_row first.within first.another in
    let both : (k : ℕ) → k < length t.heads + 1 → FitsAt (whole (places t.columns at_row t.heads) (condensed_row t at_row)) (whole (places t.columns row t.heads) (condensed_row t row)) column k ↔ FitsAt (condensed_row t at_row) (lent_row t row) (place_of t column) (get_or (pivot_places t.columns at_row row t.heads) k 0) =
    λ k within. pivot_fits_at t.columns at_row row (get_or t.basis row 0) column (place_of t column) t.heads (condensed_row t at_row) (condensed_row t row) rows k within in
    let wide : length (row_at (expanded t) at_row) ≡ length t.heads + 1 =
    ap length (whole_row t.columns t.heads t.rows at_row first.within) ∙ length-map (places t.columns at_row t.heads) (entry (condensed_row t at_row)) ∙ place_count (place_by t.columns at_row) t.columns t.heads in
    let below = first.at_within in
    record {
      within = subst (λ n. at_row < n) (sym (length-wholes t.columns t.heads 0 t.rows)) first.within;
      another = first.another;
      passes = record {
        within = subst (λ n. at_column < n) (sym wide) below;
        passes = λ fits. first.passes ((both at_column below).0 (from_wholes (λ x y. FitsAt x y column at_column) t at_row row first.within (row_count t row column is) fits));
        fits_before = λ before less. at_wholes (λ x y. FitsAt x y column before) t at_row row first.within (row_count t row column is) ((both before (omega (arith, less, below))).1 (first.fits_before before less));
      };
      fits_before = λ other less another. nowhere_lifted t row column is other (let inside = first.within in omega (arith, less)) another (first.rows_before other less another);
    }

-- a tableau in kept form is no empty one
pub kept_or_empty : (t : SimplexTableau) → IsKeptTableau t → IsKeptOrEmpty t
kept_or_empty t is = record { kept = λ some. is; empty = λ none. let some = is.some_column in absurd (omega arith) }

-- what stands for a tableau after a pivot
pub pivot_is_kept : (t : CondensedTableau) (row column : ℕ) → IsPivot t row column → IsKeptPivot (expanded t) row column (expanded (condensed_pivot t row column))
pivot_is_kept t row column is =
    subst (IsKeptPivot (expanded t) row column) (sym (pivot_of_condensed t row column is.sound is.row_within is.column_within is.not_basic))
    (is_kept_pivot (expanded t) row column (subst (λ n. row < n) (sym (length-wholes t.columns t.heads 0 t.rows)) (row_count t row column is)) is.positive)

pub stands_after : (t : CondensedTableau) (row column : ℕ) → IsPivot t row column → CondensedFits t row column → StandsForKept (condensed_pivot t row column)
stands_after t row column is fits = record {
  sound = λ some. pivot_stays_sound t row column is.sound is.row_within is.column_within is.not_basic;
  kept = kept_or_empty (expanded (condensed_pivot t row column)) (subst IsKeptTableau (sym (pivot_of_condensed t row column is.sound is.row_within is.column_within is.not_basic))
      (kept_pivot_kept (expanded t) row column is.kept is.row_within (let inside = is.column_within in omega (arith, is.sound.head_count)) is.positive (fits_lifted t row column is fits)));
}

-- the conditions of a pivot, where what stands for the tableau is opened
pub is_pivot : (t : CondensedTableau) (now : SimplexTableau) (row column : ℕ) → expanded t ≡ now → StandsForKept t → row < length now.basis → column < column_count now → ¬ Contains now.basis column → pos 0 <ℤ entry_at now row column → IsPivot t row column
is_pivot t now row column same stands row_within column_within not_basic positive =
    let there = subst (λ s. (row < length s.basis) × (column < column_count s) × (¬ Contains s.basis column) × (pos 0 <ℤ entry_at s row column)) (sym same) (row_within, column_within, not_basic, positive) in
    let column_there : column < t.columns + length t.basis = there.1 in
    let some : 0 < t.columns + length t.basis = omega (arith, column_there) in
    let sound = stands.sound some in
    record {
      sound = sound;
      kept = stands.kept.kept some;
      row_within = there.0;
      column_within = omega (arith, column_there, sound.head_count);
      not_basic = there.2;
      positive = there.3;
    }

-- the tableau of a program as built is in kept form
pub built_is_kept : (program : LinearProgram) → IsWithinLimits program → IsKeptTableau (built program)
built_is_kept program is = built_facts program is.program_holds is.numbers_fit is.few_columns is.few_rows program.columns program.rows (map (built_row program) (range_with_len 0 program.rows)) (built program).rows (built_objective program) (built program).basis refl refl refl refl refl refl

-- and what is built of condensed rows stands for it
pub built_is : (program : LinearProgram) → IsWithinLimits program → expanded (condensed_built program) ≡ built program
built_is program is = (built_of_condensed program is.program_holds).0

pub stands_built : (program : LinearProgram) → IsWithinLimits program → StandsForKept (condensed_built program)
stands_built program is = record {
  sound = λ some. (built_of_condensed program is.program_holds).1;
  kept = subst IsKeptOrEmpty (sym (built_is program is)) (kept_or_empty (built program) (built_is_kept program is));
}

-- what is empty stands for an empty tableau
pub stands_empty : StandsForKept empty_condensed
stands_empty = record { sound = λ some. absurd (omega arith); kept = record { kept = λ some. absurd (omega arith); empty = λ none. refl } }
