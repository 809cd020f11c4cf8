-- The condensed tableau as built.
use Rattle.std.proofs.Common.{◌≡◌, ℕ, zero, suc, ◌+◌, ◌-◌, ◌<◌, ◌≤◌, ◌⊎◌, inl, inr, List, [], ◌∷◌, length, map, get_or, replicate, ℤ, pos, refl, sym, ap, subst, ◌∙◌, arith}
use Rattle.std.specs.List.{range_with_len}
use Rattle.std.proofs.lemmas.List.{length-map, length-append, length-replicate, get_or_append_left, get_or-append_right, get_or_at, ext_get_or}
use Rattle.std.proofs.lemmas.List.FromFn.{length-map-range_with_len, get_or-range_with_len, get_or-map-range_with_len}
use Rattle.row_definitions.specs.Rows.{entry}
use Rattle.pivot_definitions.specs.Programs.{LinearProgram, IsProgram, coefficient_row, unit_row}
use Rattle.pivot_definitions.specs.Tableaus.{SimplexTableau, built, built_row, built_objective}
use Rattle.pivot_definitions.proofs.Built.{length-range, length-coefficients, length-built_row, length-built_objective, built_slack, unit_here}
use Rattle.pivot_definitions.proofs.Start.{unit_elsewhere, built_coefficient, built_right_side, row_built, objective_built}
use Rattle.condensed_laws.specs.Wholes.{whole}
use Rattle.condensed_laws.specs.Heads.{place_by, places, IsCondensed}
use Rattle.condensed_laws.specs.Tableaus.{expanded, condensed_row, IsSound, condensed_built_row, condensed_built_objective, condensed_built}
use Rattle.condensed_laws.specs.Laws.{BuiltOfCondensed}
use Rattle.condensed_laws.proofs.Wholes.{entry-whole, entry_past, below_or}
use Rattle.condensed_laws.proofs.Heads.{place_below, place_own, place_other}
use Rattle.condensed_laws.proofs.PivotRows.{place_at, place_count}
use Rattle.condensed_laws.proofs.Tableaus.{by_eq, length-wholes, whole_row}

-- ---- each column is its own head

head_at : (count column : ℕ) → column < count → get_or (range_with_len 0 count) column 0 ≡ column
head_at count column within = get_or-range_with_len 0 count column 0 within ∙ (let e : 0 + column ≡ column = omega arith in e)

-- the entry that a whole row shows in a column
shown_at : (width own count : ℕ) (row : List ℤ) (column : ℕ) → column < count → entry (whole (places width own (range_with_len 0 count)) row) column ≡ entry row (place_by width own column)
shown_at width own count row column within =
    let heads = range_with_len 0 count in
    let inside : column < length heads = omega (arith, length-range 0 count, within) in
    entry-whole (places width own heads) row column (omega (arith, place_count (place_by width own) width heads, inside))
    ∙ ap (entry row) (place_at (place_by width own) width heads column inside ∙ ap (place_by width own) (head_at count column within))

shown_right : (width own count : ℕ) (row : List ℤ) → entry (whole (places width own (range_with_len 0 count)) row) count ≡ entry row width
shown_right width own count row =
    let heads = range_with_len 0 count in
    let heads_count : length heads ≡ count = length-range 0 count in
    entry-whole (places width own heads) row count (omega (arith, place_count (place_by width own) width heads, heads_count))
    ∙ ap (entry row) (get_or_at (map (place_by width own) heads) width [] 0 count (length-map heads (place_by width own) ∙ heads_count))

length-shown : (width own count : ℕ) (row : List ℤ) → length (whole (places width own (range_with_len 0 count)) row) ≡ count + 1
length-shown width own count row =
    length-map (places width own (range_with_len 0 count)) (entry row) ∙ place_count (place_by width own) width (range_with_len 0 count) ∙ ap (λ n. n + 1) (length-range 0 count)

-- ---- a constraint row

module _ (program : LinearProgram) (is : IsProgram program) (k : ℕ) (within : k < program.rows) where
  abbrev row : List ℤ
  row = condensed_built_row program k

  coefs_count : length (coefficient_row program k) ≡ program.columns
  coefs_count = length-coefficients program is k within

  pub length-condensed_row : length row ≡ program.columns + 3
  length-condensed_row = length-append (coefficient_row program k) (entry program.right_sides k ∷ pos 1 ∷ pos 0 ∷ []) ∙ ap (λ n. n + 3) coefs_count

  behind : (j n : ℕ) → n ≡ program.columns + j → entry row n ≡ entry (entry program.right_sides k ∷ pos 1 ∷ pos 0 ∷ []) j
  behind j n n_is =
      get_or-append_right (coefficient_row program k) (entry program.right_sides k ∷ pos 1 ∷ pos 0 ∷ []) program.columns n (pos 0) coefs_count (omega (arith, n_is))
      ∙ ap (entry (entry program.right_sides k ∷ pos 1 ∷ pos 0 ∷ [])) (let e : n - program.columns ≡ j = omega (arith, n_is) in e)

  pub spare_built : entry row (program.columns + 2) ≡ pos 0
  spare_built = behind 2 (program.columns + 2) refl

  slack : (column : ℕ) → program.columns ≤ column → column < program.columns + program.rows → entry row (place_by program.columns k column) ≡ entry (built_row program k) column
  slack column above below =
      let j : ℕ = column - program.columns in
      let column_is : column ≡ program.columns + j = omega (arith, above) in
      let there = ap (entry (built_row program k)) column_is ∙ built_slack program is k j within (omega (arith, above, below)) in
      by_eq j k
      (λ same.
      ap (entry row) (place_own program.columns k column (omega (arith, column_is, same))) ∙ behind 1 (program.columns + 1) refl
      ∙ sym (there ∙ ap (entry (unit_row program.rows k)) same ∙ unit_here program.rows k))
      (λ not.
      ap (entry row) (place_other program.columns k column above (λ e. not (omega (arith, e, column_is)))) ∙ entry_past row (program.columns + 3) (omega (arith, length-condensed_row))
      ∙ sym (there ∙ unit_elsewhere program.rows k j not))

  each_column : (column : ℕ) → column < program.columns + program.rows + 1 → entry (whole (places program.columns k (range_with_len 0 (program.columns + program.rows))) row) column ≡ entry (built_row program k) column
  each_column column below = by_width (below_or column program.columns) where
    by_right : program.columns ≤ column → (column < program.columns + program.rows) ⊎ (program.columns + program.rows ≤ column) → entry (whole (places program.columns k (range_with_len 0 (program.columns + program.rows))) row) column ≡ entry (built_row program k) column
    by_right above (inl less) = shown_at program.columns k (program.columns + program.rows) row column less ∙ slack column above less
    by_right above (inr more) =
        let column_is : column ≡ program.columns + program.rows = omega (arith, more, below) in
        ap (entry (whole (places program.columns k (range_with_len 0 (program.columns + program.rows))) row)) column_is
        ∙ shown_right program.columns k (program.columns + program.rows) row ∙ behind 0 program.columns (let e : program.columns ≡ program.columns + 0 = omega arith in e)
        ∙ sym (ap (entry (built_row program k)) column_is ∙ built_right_side program is k within)

    by_width : (column < program.columns) ⊎ (program.columns ≤ column) → entry (whole (places program.columns k (range_with_len 0 (program.columns + program.rows))) row) column ≡ entry (built_row program k) column
    by_width (inl less) =
        shown_at program.columns k (program.columns + program.rows) row column (omega (arith, less)) ∙ ap (entry row) (place_below program.columns k column less)
        ∙ get_or_append_left (coefficient_row program k) (entry program.right_sides k ∷ pos 1 ∷ pos 0 ∷ []) (pos 0) column (omega (arith, coefs_count, less))
        ∙ sym (built_coefficient program is k column within less)
    by_width (inr above) = by_right above (below_or column (program.columns + program.rows))

  pub built_row_whole : whole (places program.columns k (range_with_len 0 (program.columns + program.rows))) row ≡ built_row program k
  built_row_whole =
      let count = length-shown program.columns k (program.columns + program.rows) row in
      ext_get_or (pos 0) (whole (places program.columns k (range_with_len 0 (program.columns + program.rows))) row) (built_row program k)
      (count ∙ sym (length-built_row program is k within)) (λ column below. each_column column (subst (λ n. column < n) count below))

-- ---- the objective row

zeros_at : (n k : ℕ) → entry (replicate n (pos 0)) k ≡ pos 0
zeros_at zero k = refl
zeros_at (suc n) zero = refl
zeros_at (suc n) (suc k) = zeros_at n k

one_at : (n m k : ℕ) → entry (pos 1 ∷ replicate n (pos 0)) k ≡ entry (pos 1 ∷ replicate m (pos 0)) k
one_at n m zero = refl
one_at n m (suc k) = zeros_at n k ∙ sym (zeros_at m k)

after_one : (n k : ℕ) → 0 < k → entry (pos 1 ∷ replicate n (pos 0)) k ≡ pos 0
after_one n zero some = absurd (omega arith)
after_one n (suc k) some = zeros_at n k

objective_whole : (program : LinearProgram) → IsProgram program → whole (places program.columns program.rows (range_with_len 0 (program.columns + program.rows))) (condensed_built_objective program) ≡ built_objective program
objective_whole program is =
    let count = length-shown program.columns program.rows (program.columns + program.rows) (condensed_built_objective program) in
    ext_get_or (pos 0) (whole (places program.columns program.rows (range_with_len 0 (program.columns + program.rows))) (condensed_built_objective program)) (built_objective program)
    (count ∙ sym (length-built_objective program)) (λ column below. by_width column (subst (λ n. column < n) count below) (below_or column program.columns))
  where
    row : List ℤ
    row = condensed_built_objective program

    by_right : (column : ℕ) → column < program.columns + program.rows + 1 → program.columns ≤ column → (column < program.columns + program.rows) ⊎ (program.columns + program.rows ≤ column) → entry (whole (places program.columns program.rows (range_with_len 0 (program.columns + program.rows))) (condensed_built_objective program)) column ≡ entry (built_objective program) column
    by_right column below above (inl less) =
        shown_at program.columns program.rows (program.columns + program.rows) (condensed_built_objective program) column less
        ∙ ap (entry (condensed_built_objective program)) (place_other program.columns program.rows column above (λ e. absurd (omega (arith, e, less))))
        ∙ after_one (program.columns + 2) (program.columns + 3) (omega arith)
        ∙ sym (after_one (program.columns + program.rows) column (omega (arith, above, is.some_column)))
    by_right column below above (inr more) =
        let column_is : column ≡ program.columns + program.rows = omega (arith, more, below) in
        ap (entry (whole (places program.columns program.rows (range_with_len 0 (program.columns + program.rows))) (condensed_built_objective program))) column_is
        ∙ shown_right program.columns program.rows (program.columns + program.rows) (condensed_built_objective program)
        ∙ after_one (program.columns + 2) program.columns is.some_column
        ∙ sym (after_one (program.columns + program.rows) column (omega (arith, above, is.some_column)))

    by_width : (column : ℕ) → column < program.columns + program.rows + 1 → (column < program.columns) ⊎ (program.columns ≤ column) → entry (whole (places program.columns program.rows (range_with_len 0 (program.columns + program.rows))) (condensed_built_objective program)) column ≡ entry (built_objective program) column
    by_width column below (inl less) =
        shown_at program.columns program.rows (program.columns + program.rows) (condensed_built_objective program) column (omega (arith, less))
        ∙ ap (entry (condensed_built_objective program)) (place_below program.columns program.rows column less)
        ∙ one_at (program.columns + 2) (program.columns + program.rows) column
    by_width column below (inr above) = by_right column below above (below_or column (program.columns + program.rows))

-- ---- the tableau

rows_count : (program : LinearProgram) → length (condensed_built program).rows ≡ program.rows + 1
rows_count program = length-append (map (condensed_built_row program) (range_with_len 0 program.rows)) (condensed_built_objective program ∷ []) ∙ ap (λ n. n + 1) (length-map-range_with_len (condensed_built_row program) 0 program.rows)

row_at_built : (program : LinearProgram) (k : ℕ) → k < program.rows → condensed_row (condensed_built program) k ≡ condensed_built_row program k
row_at_built program k within =
    get_or_append_left (map (condensed_built_row program) (range_with_len 0 program.rows)) (condensed_built_objective program ∷ []) [] k (omega (arith, length-map-range_with_len (condensed_built_row program) 0 program.rows, within))
    ∙ get_or-map-range_with_len (condensed_built_row program) 0 program.rows k k [] within (omega arith)

objective_at_built : (program : LinearProgram) → condensed_row (condensed_built program) program.rows ≡ condensed_built_objective program
objective_at_built program = get_or_at (map (condensed_built_row program) (range_with_len 0 program.rows)) (condensed_built_objective program) [] [] program.rows (length-map-range_with_len (condensed_built_row program) 0 program.rows)

old_count : (program : LinearProgram) → length (built program).rows ≡ program.rows + 1
old_count program = length-append (map (built_row program) (range_with_len 0 program.rows)) (built_objective program ∷ []) ∙ ap (λ n. n + 1) (length-map-range_with_len (built_row program) 0 program.rows)

each_row : (program : LinearProgram) → IsProgram program → (k : ℕ) → k < program.rows + 1 → get_or (expanded (condensed_built program)).rows k [] ≡ get_or (built program).rows k []
each_row program is k below = by_last (below_or k program.rows) where
  heads : List ℕ
  heads = range_with_len 0 (program.columns + program.rows)

  shown : get_or (expanded (condensed_built program)).rows k [] ≡ whole (places program.columns k (range_with_len 0 (program.columns + program.rows))) (condensed_row (condensed_built program) k)
  shown = whole_row program.columns (range_with_len 0 (program.columns + program.rows)) (condensed_built program).rows k (subst (λ n. k < n) (sym (rows_count program)) below)

  by_last : (k < program.rows) ⊎ (program.rows ≤ k) → get_or (expanded (condensed_built program)).rows k [] ≡ get_or (built program).rows k []
  by_last (inl less) =
      shown ∙ ap (whole (places program.columns k (range_with_len 0 (program.columns + program.rows)))) (row_at_built program k less)
      ∙ built_row_whole program is k less ∙ sym (row_built program k less)
  by_last (inr more) =
      let k_is : k ≡ program.rows = omega (arith, more, below) in
      shown ∙ ap (λ n. whole (places program.columns n (range_with_len 0 (program.columns + program.rows))) (condensed_row (condensed_built program) n)) k_is
      ∙ ap (whole (places program.columns program.rows (range_with_len 0 (program.columns + program.rows)))) (objective_at_built program)
      ∙ objective_whole program is ∙ sym (objective_built program) ∙ sym (ap (λ n. get_or (built program).rows n []) k_is)

expanded_built : (program : LinearProgram) → IsProgram program → expanded (condensed_built program) ≡ built program
expanded_built program is =
    let left = length-wholes program.columns (range_with_len 0 (program.columns + program.rows)) 0 (condensed_built program).rows ∙ rows_count program in
    let with_rows : List (List ℤ) → SimplexTableau = λ rows. record { columns = program.columns; rows = rows; basis = range_with_len program.columns program.rows } in
    ap with_rows (ext_get_or [] (expanded (condensed_built program)).rows (built program).rows (left ∙ sym (old_count program)) (λ k below. each_row program is k (subst (λ n. k < n) left below)))

sound_built : (program : LinearProgram) → IsProgram program → IsSound (condensed_built program)
sound_built program is = record {
  row_count = rows_count program ∙ ap (λ n. n + 1) (sym basis_count);
  head_count = heads_count ∙ ap (λ n. program.columns + n) (sym basis_count);
  condensed = λ k below. condensed_at k (subst (λ n. k < n) (rows_count program) below) (below_or k program.rows);
  heads_within = λ column below. let inside = subst (λ n. column < n) heads_count below in omega (arith, head_at (program.columns + program.rows) column inside, inside, basis_count);
  one_column = λ column other below other_below same.
      sym (head_at (program.columns + program.rows) column (subst (λ n. column < n) heads_count below)) ∙ same ∙ head_at (program.columns + program.rows) other (subst (λ n. other < n) heads_count other_below);
  places_shown = λ place below. record { column = place; within = omega (arith, heads_count, below); is = head_at (program.columns + program.rows) place (omega (arith, below)) };
  basis_within = λ row below. omega (arith, basis_at row (subst (λ n. row < n) basis_count below), heads_count, basis_count, below);
  basic_head = λ row below.
      let inside = subst (λ n. row < n) basis_count below in
      ap (λ c. get_or (range_with_len 0 (program.columns + program.rows)) c 0) (basis_at row inside) ∙ head_at (program.columns + program.rows) (program.columns + row) (omega (arith, inside));
  objective_own =
      ap (λ n. entry (condensed_row (condensed_built program) n) (program.columns + 1)) basis_count
      ∙ ap (λ r. entry r (program.columns + 1)) (objective_at_built program) ∙ after_one (program.columns + 2) (program.columns + 1) (omega arith);
} where
  basis_count : length (range_with_len program.columns program.rows) ≡ program.rows
  basis_count = length-range program.columns program.rows

  heads_count : length (range_with_len 0 (program.columns + program.rows)) ≡ program.columns + program.rows
  heads_count = length-range 0 (program.columns + program.rows)

  basis_at : (row : ℕ) → row < program.rows → get_or (range_with_len program.columns program.rows) row 0 ≡ program.columns + row
  basis_at row within = get_or-range_with_len program.columns program.rows row 0 within

  condensed_at : (k : ℕ) → k < program.rows + 1 → (k < program.rows) ⊎ (program.rows ≤ k) → IsCondensed program.columns (condensed_row (condensed_built program) k)
  condensed_at k below (inl less) = subst (IsCondensed program.columns) (sym (row_at_built program k less)) (record { count = length-condensed_row program is k less; spare = spare_built program is k less })
  condensed_at k below (inr more) =
      let k_is : k ≡ program.rows = omega (arith, more, below) in
      subst (IsCondensed program.columns) (sym (ap (condensed_row (condensed_built program)) k_is ∙ objective_at_built program))
      (record {
        count = omega (arith, length-replicate (program.columns + 2) (pos 0));
        spare = after_one (program.columns + 2) (program.columns + 2) (omega arith);
      })

pub built_of_condensed : BuiltOfCondensed
built_of_condensed program is = (expanded_built program is, sound_built program is)
