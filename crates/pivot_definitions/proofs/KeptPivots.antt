-- The pivot of a kept form is in kept form, and is the kept form of the plain pivot.
use Rattle.std.proofs.Common.{◌≡◌, ◌≢◌, ℕ, ◌+◌, ◌<◌, List, [], ◌∷◌, map, length, get_or, refl, sym, ap, ap₂, ◌∙◌, subst, arith}
use Rattle.std.specs.List.{All}
use Rattle.std.proofs.lemmas.List.{length-map, length-set}
use Rattle.std.proofs.lemmas.List.Elements.{All-from_get_or, All-head, All-tail, All-set, All-weaker}
use lib.IntN.{ℤ, pos}
use lib.Signed.{◌<ℤ◌}
use Rattle.row_definitions.specs.Rows.{primitive_row, row_divisor, divided}
use Rattle.row_definitions.specs.Combination.{FitsEntry, combined, reduced_combination, target_factor, pivot_factor, PassesNowhere}
use Rattle.row_definitions.proofs.Primitives.{primitive_row-primitive_row, FitsEntry-primitive_row}
use Rattle.row_definitions.proofs.Combinations.{length-combination, entry-combination, combined_of_kept_forms}
use Rattle.pivot_definitions.specs.Tableaus.{SimplexTableau, HasPrimitiveRows, IsCanonical, IsKeptTableau, row_at, entry_at, column_count, others_combined, plain_pivot, kept, IsKeptPivot, PivotFits}
use Rattle.pivot_definitions.specs.Laws.{kept_pivot}
use Rattle.pivot_definitions.proofs.Ring.{by_eq}
use Rattle.pivot_definitions.proofs.Pivots.{length-others, same_row, other_row, width, pivot_facts}
use Rattle.pivot_definitions.proofs.Feasible.{canonical_step}
use Rattle.pivot_definitions.proofs.KeptForms.{kept_pivot_lem}
use Rattle.pivot_definitions.proofs.KeptFeasible.{kept_canonical}
use Rattle.pivot_definitions.proofs.Signs.{positive_plain}

pub All-others : (P : List ℤ → Type 0) (f : List ℤ → List ℤ) (rows : List (List ℤ)) (p : ℕ) → p < length rows → P (get_or rows p []) → ((i : ℕ) → i < length rows → i ≢ p → P (f (get_or rows i []))) → All P (others_combined f rows p)
All-others P f rows p within here others = All-from_get_or P (others_combined f rows p) [] (λ i h. by_eq i p
    (λ e. subst P (sym (ap (λ n. get_or (others_combined f rows p) n []) e ∙ same_row f rows p)) here)
    (λ ne. let inside : i < length rows = omega (arith, length-others f rows p within) in subst P (sym (other_row f rows p i inside ne)) (others i inside ne)))

length-combined : (target pivot : List ℤ) (at : ℕ) → length target ≡ length pivot → length (combined target pivot at) ≡ length target
length-combined target pivot at e = length-map (reduced_combination target pivot at) (divided (row_divisor (reduced_combination target pivot at))) ∙ length-combination (target_factor target pivot at) (pivot_factor target pivot at) target pivot e

pub fits_combined : (target pivot : List ℤ) (at : ℕ) → length target ≡ length pivot → PassesNowhere target pivot at → All FitsEntry (combined target pivot at)
fits_combined target pivot at e fits = FitsEntry-primitive_row (reduced_combination target pivot at) (All-from_get_or FitsEntry (reduced_combination target pivot at) (pos 0)
    (λ k h. subst FitsEntry (sym (entry-combination (target_factor target pivot at) (pivot_factor target pivot at) target pivot k e)) ((fits k (omega (arith, length-combination (target_factor target pivot at) (pivot_factor target pivot at) target pivot e))).difference)))

pub is_kept_pivot : (t : SimplexTableau) (p q : ℕ) → p < length t.rows → pos 0 <ℤ entry_at t p q → IsKeptPivot t p q (kept_pivot t p q)
is_kept_pivot t p q within positive plain is =
    let moved = subst (λ s. (p < length s.rows) × (pos 0 <ℤ entry_at s p q)) (sym is) (within, positive) in
    ap (λ s. kept_pivot s p q) (sym is) ∙ sym (kept_pivot_lem combined_of_kept_forms plain p q (omega (arith, length-map plain.rows primitive_row, moved.0)) (positive_plain plain p q moved.1))

map_same : (rows : List (List ℤ)) → All (λ row. primitive_row row ≡ row) rows → map primitive_row rows ≡ rows
map_same [] all = refl
map_same (row ∷ rows) all = ap₂ (λ x xs. x ∷ xs) (All-head (λ r. primitive_row r ≡ r) row rows all) (map_same rows (All-tail (λ r. primitive_row r ≡ r) row rows all))

-- a tableau of primitive rows is its own kept form
kept_same : (t : SimplexTableau) → HasPrimitiveRows t → kept t ≡ t
kept_same t primitive = ap (λ rows. record { columns = t.columns; rows = rows; basis = t.basis }) (map_same t.rows primitive)

pub kept_pivot_kept : (t : SimplexTableau) (p q : ℕ) → IsKeptTableau t → p < length t.basis → q < column_count t → pos 0 <ℤ entry_at t p q → PivotFits t p q → IsKeptTableau (kept_pivot t p q)
kept_pivot_kept t p q is row column positive fits =
    let count : length t.rows ≡ length t.basis + 1 = is.shape.row_count in
    let within : p < length t.rows = omega (arith, count) in
    let f : List ℤ → List ℤ = λ target. combined target (row_at t p) q in
    let even : (i : ℕ) → i < length t.rows → length (row_at t i) ≡ length (row_at t p) = λ i h. width t is.shape i h ∙ sym (width t is.shape p within) in
    let same_count : length (kept_pivot t p q).basis ≡ length t.basis = length-set t.basis p q in
    let wide : length (row_at t p) ≡ column_count (kept_pivot t p q) + 1 = width t is.shape p within ∙ ap (λ n. t.columns + n + 1) (sym same_count) in
    record {
      some_column = is.some_column;
      some_row = omega (arith, same_count, is.some_row);
      few_columns = is.few_columns;
      few_rows = omega (arith, same_count, is.few_rows);
      shape = record {
        row_count = length-others f t.rows p within ∙ count ∙ ap (λ n. n + 1) (sym same_count);
        widths = All-others (λ r. length r ≡ column_count (kept_pivot t p q) + 1) f t.rows p within wide (λ i h ne. length-combined (row_at t i) (row_at t p) q (even i h) ∙ even i h ∙ wide);
        basic_columns = All-weaker (λ c. c < column_count t) (λ c. c < column_count (kept_pivot t p q)) (λ c h. omega (arith, same_count)) (kept_pivot t p q).basis (All-set (λ c. c < column_count t) t.basis p q column is.shape.basic_columns);
      };
      fits = All-others (All FitsEntry) f t.rows p within (is.fits p [] within) (λ i h ne. fits_combined (row_at t i) (row_at t p) q (even i h) (fits i h ne));
      primitive = All-others (λ r. primitive_row r ≡ r) f t.rows p within (is.primitive p [] within) (λ i h ne. primitive_row-primitive_row (reduced_combination (row_at t i) (row_at t p) q));
      canonical = subst IsCanonical (sym (is_kept_pivot t p q within positive t (kept_same t is.primitive)))
          (kept_canonical (plain_pivot t p q) (canonical_step t (plain_pivot t p q) p q is.shape (pivot_facts t is.shape p q row column) row positive is.canonical));
    }
