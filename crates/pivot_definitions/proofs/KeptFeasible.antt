-- The kept form keeps what holds of every tableau that a run reaches, and so it holds of the kept form that a run ends with.
use Rattle.std.proofs.Common.{◌≡◌, ℕ, ◌+◌, List, length, sym, ◌∙◌, subst, arith}
use Rattle.std.specs.Prelude.{MatchOption}
use Rattle.std.proofs.lemmas.List.{length-map}
use Rattle.std.proofs.lemmas.List.Elements.{All-map, All-weaker}
use lib.IntN.{ℤ, pos}
use lib.Signed.{◌<ℤ◌, ◌≤ℤ◌}
use Rattle.row_definitions.specs.Rows.{primitive_row, row_divisor, divided}
use Rattle.pivot_definitions.specs.Tableaus.{SimplexTableau, IsTableau, IsCanonical, entry_at, basic_column, column_count, right_side, IsValueOf, kept}
use Rattle.pivot_definitions.specs.Feasible.{IsFeasible, ReachedIsFeasible, ValuesAreNotNegative}
use Rattle.pivot_definitions.proofs.Ring.{linear}
use Rattle.pivot_definitions.proofs.Reached.{reached}
use Rattle.pivot_definitions.proofs.Signs.{positive_kept, zero_kept, right_sides_kept}
use Rattle.pivot_definitions.proofs.Solutions.{row_of, found, by_row}

pub kept_shape : (t : SimplexTableau) → IsTableau t → IsTableau (kept t)
kept_shape t is =
    let W : List ℤ → Type 0 = λ r. length r ≡ column_count t + 1 in
    record {
      row_count = length-map t.rows primitive_row ∙ is.row_count;
      widths = All-map W primitive_row t.rows (All-weaker W (λ r. W (primitive_row r)) (λ r e. length-map r (divided (row_divisor r)) ∙ e) t.rows is.widths);
      basic_columns = is.basic_columns;
    }

pub kept_canonical : (t : SimplexTableau) → IsCanonical t → IsCanonical (kept t)
kept_canonical t is = record {
  positive = λ row h. positive_kept t row (basic_column t row) (is.positive row h);
  zero_elsewhere = λ row other h k differ. zero_kept t other (basic_column t row) (is.zero_elsewhere row other h (omega (arith, length-map t.rows primitive_row, k)) differ);
}

kept_feasible : (t : SimplexTableau) → IsFeasible t → IsFeasible (kept t)
kept_feasible t is = record { shape = kept_shape t is.shape; canonical = kept_canonical t is.canonical; right_sides = right_sides_kept t is.right_sides }

pub reached_is_feasible : ReachedIsFeasible
reached_is_feasible program tableau (is, capped, pivots, plain, run, kept_is) = subst IsFeasible (sym kept_is) (kept_feasible plain (reached program is capped pivots plain run).feasible)

-- a value of which the denominator is above 0 and the numerator is not below 0
abbrev IsNotNegative : ℤ × ℤ → Type 0
IsNotNegative value = (pos 0 ≤ℤ value.0) × (pos 0 <ℤ value.1)

feasible_value : (t : SimplexTableau) → IsFeasible t → (column : ℕ) (value : ℤ × ℤ) → IsValueOf t column value → IsNotNegative value
feasible_value t is column value is_value =
    by_row (λ o. MatchOption o (value ≡ (pos 0, pos 1)) (λ row. value ≡ (right_side t row, entry_at t row column)) → IsNotNegative value) (row_of t column)
    (λ none value_is. subst IsNotNegative (sym value_is) (omega (arith, linear), omega (arith, linear)))
    (λ row some value_is.
    let f = found t column row some in
    subst IsNotNegative (sym value_is) (is.right_sides row f.0, subst (λ k. pos 0 <ℤ entry_at t row k) f.1 (is.canonical.positive row f.0)))
    is_value

pub values_are_not_negative : ValuesAreNotNegative
values_are_not_negative program tableau is_reached column value = feasible_value tableau (reached_is_feasible program tableau is_reached) column value
