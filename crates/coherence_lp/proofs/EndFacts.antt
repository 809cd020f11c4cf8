-- What is known of the tableau at the best end of a run.
use Rattle.std.proofs.Common.{◌≡◌, ◌↔◌, ℕ, ◌<◌, ◌≤◌, inl, inr, List, length, sym, ap, ◌∙◌, arith}
use Rattle.std.specs.Prelude.{Option, None, Some, MatchOption, unsigned_abs, ◌==◌}
use Rattle.std.specs.List.{position}
use Rattle.std.proofs.lemmas.Int.{ints}
use lib.IntN.{ℤ, pos, negsuc}
use lib.Signed.{◌<ℤ◌}
use Rattle.scan_types.specs.declared.outcome.Outcome.{Outcome}
use Rattle.pivot_definitions.specs.Programs.{LinearProgram}
use Rattle.pivot_definitions.specs.Tableaus.{SimplexTableau, column_count, entry_at, right_side, IsValueOf}
use Rattle.pivot_definitions.specs.Duality.{IsReached}
use Rattle.pivot_definitions.proofs.Reached.{reached}
use Rattle.pivot_definitions.proofs.KeptFeasible.{values_are_not_negative}
use Rattle.judging_definitions.specs.Stakes.{Fraction, value_in_row, column_value}
use Rattle.judging_definitions.specs.Readings.{HasLevelOne}
use Rattle.judging_laws.proofs.ClassFacts.{classes_few}
use Rattle.coherence_lp.specs.Ends.{IsBestEnd, IsProgramEnd}

-- a tableau of a run has its program's columns and rows
pub record HasShape (program : LinearProgram) (tableau : SimplexTableau) : Type 0 where
  pub some_column : 0 < tableau.columns
  pub columns : tableau.columns ≡ program.columns
  pub rows : length tableau.basis ≡ program.rows

pub reached_shape : (program : LinearProgram) (tableau : SimplexTableau) → IsReached program tableau → HasShape program tableau
reached_shape program tableau (is, capped, pivots, plain, run, kept_is) =
    let held = reached program is capped pivots plain run in
    let columns : tableau.columns ≡ program.columns = ap (λ (t : SimplexTableau). t.columns) kept_is ∙ held.columns in
    let some = is.some_column in
    record {
      some_column = omega arith;
      columns = columns;
      rows = ap (λ (t : SimplexTableau). length t.basis) kept_is ∙ held.count;
    }

pub end_columns : (tableau : SimplexTableau) → IsBestEnd tableau → 0 < column_count tableau
end_columns tableau end = let some = (reached_shape end.0 tableau end.1.0).some_column in omega arith

-- there is a row for each of a few classes
pub class_rows_stand : (classes : List Outcome) (tableau : SimplexTableau) → IsProgramEnd classes tableau → (length classes ≤ length tableau.basis) × (length classes ≤ 98)
class_rows_stand classes tableau (offers, is, end) =
    let count = ap (λ (xs : List Outcome). length xs) is in
    let few = classes_few offers in
    elim end [
      | inl first ↦ (let shape = reached_shape _ tableau first.0 in (omega (arith, shape.rows, count), omega (arith, count, few)))
      | inr limited ↦ (let shape = reached_shape _ tableau limited.1.0 in (omega (arith, shape.rows, count), omega (arith, count, few)))
    ]

-- a value as a fraction: the sizes of both numbers
value_in : (tableau : SimplexTableau) (column : ℕ) (o : Option ℕ) (value : ℤ × ℤ) → MatchOption o (value ≡ (pos 0, pos 1)) (λ row. value ≡ (right_side tableau row, entry_at tableau row column)) → value_in_row tableau column o ≡ record { numerator = unsigned_abs value.0; denominator = unsigned_abs value.1 }
value_in tableau column None value is = ap (λ (v : ℤ × ℤ). let f : Fraction = record { numerator = unsigned_abs v.0; denominator = unsigned_abs v.1 } in f) (sym is)
value_in tableau column (Some row) value is = ap (λ (v : ℤ × ℤ). let f : Fraction = record { numerator = unsigned_abs v.0; denominator = unsigned_abs v.1 } in f) (sym is)

pub value_is : (tableau : SimplexTableau) (column : ℕ) (value : ℤ × ℤ) → IsValueOf tableau column value → column_value tableau column ≡ record { numerator = unsigned_abs value.0; denominator = unsigned_abs value.1 }
value_is tableau column value is = value_in tableau column (position (λ basic. basic == column) tableau.basis) value is

-- the level is 1 just if the two sizes are the same
pub level_by_sizes : (tableau : SimplexTableau) (numerator denominator : ℕ) → column_value tableau 0 ≡ record { numerator = numerator; denominator = denominator } → (numerator ≡ denominator) ↔ HasLevelOne tableau
level_by_sizes tableau numerator denominator is =
    let top = ap (λ (f : Fraction). f.numerator) is in
    let bottom = ap (λ (f : Fraction). f.denominator) is in
    ((λ e. top ∙ e ∙ sym bottom), (λ h. sym top ∙ h ∙ bottom))

size_positive : (x : ℤ) → pos 0 <ℤ x → 1 ≤ unsigned_abs x
size_positive (pos n) h = omega (arith, ints)
size_positive (negsuc n) h = absurd (omega (arith, ints))

-- the denominator of a value is above 0
pub value_stands : (tableau : SimplexTableau) (column : ℕ) (value : ℤ × ℤ) → IsBestEnd tableau → IsValueOf tableau column value → 1 ≤ unsigned_abs value.1
value_stands tableau column value end is = size_positive value.1 (values_are_not_negative end.0 tableau end.1.0 column value is).1
