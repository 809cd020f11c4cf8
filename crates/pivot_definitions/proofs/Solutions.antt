-- The basic solution of the kept form of a tableau that a run reaches is one of the program, and column 0 of it is what the multipliers make of the right sides.
use Rattle.std.proofs.Common.{◌≡◌, ◌≢◌, ℕ, ◌+◌, ◌<◌, ◌==◌, Option, None, Some, Bool, true, false, cond, length, get_or, refl, sym, ap, ap₂, ◌∙◌, subst, arith}
use Rattle.std.specs.List.{position, position_or_len}
use Rattle.std.specs.Prelude.{MatchOption, nat_lt}
use Rattle.std.proofs.lemmas.List.Quantifiers.{position-Some}
use Rattle.std.proofs.lemmas.List.Sums.{position_or_len_is}
use Rattle.std.proofs.lemmas.Bool.Decides.{nat_tests}
use borrow.Author.Tests.{eqb-true}
use lib.IntN.{ℤ, pos, ◌+ℤ◌, ◌*ℤ◌}
use lib.Signed.{◌<ℤ◌, ◌≤ℤ◌}
use borrow.Author.Differences.{same_out}
use Rattle.row_definitions.specs.Rows.{entry}
use Rattle.pivot_definitions.specs.Programs.{LinearProgram, IsProgram, IsCapped, coefficient}
use Rattle.pivot_definitions.specs.Tableaus.{SimplexTableau, entry_at, basic_column, column_count, right_side, IsValueOf, built, kept}
use Rattle.pivot_definitions.specs.Runs.{RunsTo}
use Rattle.pivot_definitions.specs.Duality.{sum_below, row_sum, IsSolutionTimes, BasicSolutionExists, BasicSolutionSatisfies}
use Rattle.pivot_definitions.proofs.Ring.{dif_is, difs, dif_same, linear, mul_not_negative, not_negative_from_product, at_most_from_product, zero_times, one_times, times_one, times_zero, assoc}
use Rattle.pivot_definitions.proofs.Built.{built_slack, unit_here}
use Rattle.pivot_definitions.proofs.Start.{row_built, unit_elsewhere, built_coefficient, built_right_side}
use Rattle.pivot_definitions.proofs.Reached.{Reached, reached}
use Rattle.pivot_definitions.proofs.Signs.{multiple, positive_kept, zero_kept, not_negative_kept}
use Rattle.pivot_definitions.proofs.Sums.{sum_same, sum_scaled, sum_scaled_right, sum_one, sum_parts, product_below, product_positive, cofactor, cofactor_is, cofactor_positive}
use Rattle.pivot_definitions.proofs.Duality.{B, Solves, Combined, combined}

-- ---- the kept form's basic columns

-- a row's own entry in its basic column
abbrev pub own : SimplexTableau → ℕ → ℤ
own t row = entry_at t row (basic_column t row)

-- the entry in a row's basic column over all, and without one
abbrev pub K : LinearProgram → SimplexTableau → ℤ
K program t = product_below program.rows (own t)

abbrev rest : LinearProgram → SimplexTableau → ℕ → ℤ
rest program t row = cofactor program.rows (own t) row

-- the row in which a column is basic
abbrev pub row_of : SimplexTableau → ℕ → Option ℕ
row_of t k = position (λ basic. basic == k) t.basis

pick : (ℕ → ℤ) → Option ℕ → ℤ
pick f None = pos 0
pick f (Some row) = f row

-- the basic solution, so many times the product of the entries of all basic columns
pub solution : LinearProgram → SimplexTableau → ℤ → ℕ → ℤ
solution program t d k = pick (λ row. (d *ℤ right_side t row) *ℤ rest program t row) (row_of t k)

pub found : (t : SimplexTableau) (k row : ℕ) → row_of t k ≡ Some row → (row < length t.basis) × (basic_column t row ≡ k)
found t k row e = let f = position-Some (λ basic. basic == k) t.basis row 0 e in (f.0, eqb-true (basic_column t row) k f.1)

-- what holds of a column that is basic in no row, or in one
pub by_row : (P : Option ℕ → Type 0) (o : Option ℕ) → (o ≡ None → P None) → ((row : ℕ) → o ≡ Some row → P (Some row)) → P o
by_row P None none some = none refl
by_row P (Some row) none some = some row refl

pub record Basic (program : LinearProgram) (plain : SimplexTableau) : Type 0 where
  pub held : Reached program plain
  pub all : Combined program plain

positive_own : (program : LinearProgram) (plain : SimplexTableau) → Basic program plain → (row : ℕ) → row < program.rows → pos 0 <ℤ own (kept plain) row
positive_own program plain basic row h = positive_kept plain row (basic_column plain row) (basic.held.feasible.canonical.positive row (omega (arith, basic.held.count)))

zero_other : (program : LinearProgram) (plain : SimplexTableau) → Basic program plain → (row other : ℕ) → row < program.rows → other < length plain.rows → other ≢ row → entry_at (kept plain) other (basic_column plain row) ≡ pos 0
zero_other program plain basic row other h k differ = zero_kept plain other (basic_column plain row) (basic.held.feasible.canonical.zero_elsewhere row other (omega (arith, basic.held.count)) k differ)

-- the first row that is found is the row itself, since no two rows have one basic column
found_own : (program : LinearProgram) (plain : SimplexTableau) → Basic program plain → (row : ℕ) → row < program.rows → row_of plain (basic_column plain row) ≡ Some row
found_own program plain basic row h =
    let count = basic.held.count in
    let rows = basic.held.feasible.shape.row_count in
    let c = basic_column plain row in
    let p : ℕ → Bool = λ b. b == c in
    let here : row < length plain.basis = omega (arith, count) in
    let before : (k : ℕ) → k < row → p (get_or plain.basis k 0) ≡ false = λ k hk.
    (let differ : basic_column plain k ≢ c = λ same.
    (let z : entry_at plain k (basic_column plain row) ≡ pos 0 = basic.held.feasible.canonical.zero_elsewhere row k here (omega (arith, rows, count)) (omega arith) in
    let x : pos 0 <ℤ entry_at plain k (basic_column plain row) = subst (λ j. pos 0 <ℤ entry_at plain k j) same (basic.held.feasible.canonical.positive k (omega arith)) in
    omega (arith, linear, same_out _ _ z, x)) in
    grind (arith, nat_tests)) in
    let at : position_or_len p plain.basis ≡ row = position_or_len_is p plain.basis row 0 (omega arith) before (λ _. grind (arith, nat_tests)) in
    let inside : nat_lt (position_or_len p plain.basis) (length plain.basis) ≡ true = grind (arith, nat_tests) in
    ap (λ b. cond b (Some (position_or_len p plain.basis)) None) inside ∙ ap Some at

-- ---- the solution solves the rows

move_out : (a d r c : ℤ) → a *ℤ ((d *ℤ r) *ℤ c) ≡ ((a *ℤ c) *ℤ d) *ℤ r
move_out a d r c = rw (dif_is a, dif_is d, dif_is r, dif_is c) (simp difs (dif_same _ _ _ _ (omega arith)))

at_own : (program : LinearProgram) (plain : SimplexTableau) (d : ℤ) → Basic program plain → (row : ℕ) → row < program.rows → own (kept plain) row *ℤ solution program (kept plain) d (basic_column plain row) ≡ (K program (kept plain) *ℤ d) *ℤ right_side (kept plain) row
unfolding solution pick
at_own program plain d basic row h =
    ap (λ o. own (kept plain) row *ℤ pick (λ i. (d *ℤ right_side (kept plain) i) *ℤ rest program (kept plain) i) o) (found_own program plain basic row h)
    ∙ move_out (own (kept plain) row) d (right_side (kept plain) row) (rest program (kept plain) row)
    ∙ ap (λ x. (x *ℤ d) *ℤ right_side (kept plain) row) (cofactor_is program.rows row (own (kept plain)) h)

-- a column that is not the row's own has no part in the row
pub no_part : (program : LinearProgram) (plain : SimplexTableau) (d : ℤ) → Basic program plain → (other k : ℕ) → other < length plain.rows → (other < program.rows → k ≢ basic_column plain other) → entry_at (kept plain) other k *ℤ solution program (kept plain) d k ≡ pos 0
unfolding solution pick
no_part program plain d basic other k h differ =
    by_row (λ o. entry_at (kept plain) other k *ℤ pick (λ i. (d *ℤ right_side (kept plain) i) *ℤ rest program (kept plain) i) o ≡ pos 0) (row_of plain k)
    (λ e. times_zero (entry_at (kept plain) other k))
    (λ row e.
    let f = found plain k row e in
    let inside : row < program.rows = omega (arith, f.0, basic.held.count) in
    let z : entry_at (kept plain) other k ≡ pos 0 = subst (λ j. entry_at (kept plain) other j ≡ pos 0) f.1 (zero_other program plain basic row other inside h (λ same. differ (subst (λ r. r < program.rows) (sym same) inside) (sym f.1 ∙ ap (basic_column plain) (sym same)))) in
    ap (λ x. x *ℤ ((d *ℤ right_side (kept plain) row) *ℤ rest program (kept plain) row)) z ∙ zero_times ((d *ℤ right_side (kept plain) row) *ℤ rest program (kept plain) row))

move_factor : (g k r : ℤ) → g *ℤ (k *ℤ r) ≡ k *ℤ (g *ℤ r)
move_factor g k r = rw (dif_is g, dif_is k, dif_is r) (simp difs (dif_same _ _ _ _ (omega arith)))

pub wide : (program : LinearProgram) (plain : SimplexTableau) → Basic program plain → column_count plain ≡ program.columns + program.rows
wide program plain basic = ap₂ (λ a b. a + b) basic.held.columns basic.held.count

pub solves_plain : (program : LinearProgram) (plain : SimplexTableau) (d : ℤ) → Basic program plain → Solves program plain (solution program (kept plain) d) (K program (kept plain) *ℤ d)
solves_plain program plain d basic i h =
    let n = program.columns + program.rows in
    let m = multiple plain i in
    let z = solution program (kept plain) d in
    let rows = basic.held.feasible.shape.row_count in
    let count = basic.held.count in
    let inside : basic_column plain i < n = (let b : basic_column plain i < column_count plain = basic.held.feasible.shape.basic_columns i 0 (omega (arith, count)) in omega (arith, b, wide program plain basic)) in
    sum_same n (λ k. entry_at plain i k *ℤ z k) (λ k. (m.factor *ℤ entry_at (kept plain) i k) *ℤ z k) (λ k hk. ap (λ x. x *ℤ z k) (m.entries k))
    ∙ sum_scaled n m.factor (λ k. entry_at (kept plain) i k) z
    ∙ ap (λ x. m.factor *ℤ x) (sum_one n (basic_column plain i) (λ k. entry_at (kept plain) i k *ℤ z k) inside (λ k hk differ. no_part program plain d basic i k (omega (arith, rows, count)) (λ _. differ)) ∙ at_own program plain d basic i h)
    ∙ move_factor m.factor (K program (kept plain) *ℤ d) (right_side (kept plain) i)
    ∙ ap (λ x. (K program (kept plain) *ℤ d) *ℤ x) (sym (m.entries (column_count plain)) ∙ ap (entry_at plain i) (wide program plain basic))

-- ---- the solution and the point

pub K_positive : (program : LinearProgram) (plain : SimplexTableau) → Basic program plain → pos 0 <ℤ K program (kept plain)
K_positive program plain basic = product_positive program.rows (own (kept plain)) (λ k h. positive_own program plain basic k h)

right_side_kept : (program : LinearProgram) (plain : SimplexTableau) → Basic program plain → (row : ℕ) → row < program.rows → pos 0 ≤ℤ right_side (kept plain) row
right_side_kept program plain basic row h = not_negative_kept plain row (column_count plain) (basic.held.feasible.right_sides row (omega (arith, basic.held.count)))

solution_not_negative : (program : LinearProgram) (plain : SimplexTableau) (d : ℤ) → Basic program plain → pos 0 <ℤ d → (k : ℕ) → pos 0 ≤ℤ solution program (kept plain) d k
unfolding solution pick
solution_not_negative program plain d basic positive k =
    by_row (λ o. pos 0 ≤ℤ pick (λ i. (d *ℤ right_side (kept plain) i) *ℤ rest program (kept plain) i) o) (row_of plain k)
    (λ e. omega (arith, linear))
    (λ row e.
    let f = found plain k row e in
    let inside : row < program.rows = omega (arith, f.0, basic.held.count) in
    let c = cofactor_positive program.rows row (own (kept plain)) (λ j hj. positive_own program plain basic j hj) in
    mul_not_negative (d *ℤ right_side (kept plain) row) (rest program (kept plain) row) (mul_not_negative d (right_side (kept plain) row) (omega (arith, linear)) (right_side_kept program plain basic row inside)) (omega (arith, linear, c)))

regroup_point : (o p c : ℤ) → (o *ℤ p) *ℤ c ≡ (o *ℤ c) *ℤ p
regroup_point o p c = rw (dif_is o, dif_is p, dif_is c) (simp difs (dif_same _ _ _ _ (omega arith)))

-- in the program's columns the solution is the point times the product
pub solution_is : (program : LinearProgram) (plain : SimplexTableau) (d : ℤ) (point : ℕ → ℤ) → Basic program plain → IsSolutionTimes program (kept plain) d point → (k : ℕ) → k < program.columns → solution program (kept plain) d k ≡ K program (kept plain) *ℤ point k
unfolding solution pick
solution_is program plain d point basic times k h =
    by_row (λ o. ((value : ℤ × ℤ) → MatchOption o (value ≡ (pos 0, pos 1)) (λ row. value ≡ (right_side (kept plain) row, entry_at (kept plain) row k)) → value.1 *ℤ point k ≡ d *ℤ value.0) → o ≡ row_of plain k → pick (λ i. (d *ℤ right_side (kept plain) i) *ℤ rest program (kept plain) i) o ≡ K program (kept plain) *ℤ point k) (row_of plain k)
    (λ e values is.
    let none : point k ≡ pos 0 = sym (one_times (point k)) ∙ values (pos 0, pos 1) refl ∙ times_zero d in
    sym (ap (λ x. K program (kept plain) *ℤ x) none ∙ times_zero (K program (kept plain))))
    (λ row e values is.
    let f = found plain k row e in
    let inside : row < program.rows = omega (arith, f.0, basic.held.count) in
    let v : entry_at (kept plain) row k *ℤ point k ≡ d *ℤ right_side (kept plain) row = values (right_side (kept plain) row, entry_at (kept plain) row k) refl in
    ap (λ x. x *ℤ rest program (kept plain) row) (sym v ∙ ap (λ j. entry_at (kept plain) row j *ℤ point k) (sym f.1))
    ∙ regroup_point (own (kept plain) row) (point k) (rest program (kept plain) row)
    ∙ ap (λ x. x *ℤ point k) (cofactor_is program.rows row (own (kept plain)) inside))
    (times.values k h) refl

split_last : (a b c : ℤ) → pos 0 ≤ℤ b → a +ℤ b ≡ c → a ≤ℤ c
split_last a b c h e = omega (arith, linear, same_out _ _ e)

satisfied : (program : LinearProgram) → IsProgram program → (plain : SimplexTableau) (d : ℤ) (point : ℕ → ℤ) → Basic program plain → IsSolutionTimes program (kept plain) d point → (row : ℕ) → row < program.rows → row_sum program row point ≤ℤ (d *ℤ entry program.right_sides row)
satisfied program is plain d point basic times row h =
    let z = solution program (kept plain) d in
    let k = K program (kept plain) in
    let n = program.columns + program.rows in
    let solves = basic.all.back z (k *ℤ d) (solves_plain program plain d basic) row h in
    let at : (c : ℕ) → entry_at (built program) row c ≡ B program row c = λ c. ap (λ r. entry r c) (row_built program row h) in
    let first : sum_below program.columns (λ c. B program row c *ℤ z c) ≡ k *ℤ row_sum program row point =
    sum_same program.columns (λ c. B program row c *ℤ z c) (λ c. coefficient program row c *ℤ (k *ℤ point c)) (λ c hc. ap₂ (λ x y. x *ℤ y) (built_coefficient program is row c h hc) (solution_is program plain d point basic times c hc))
    ∙ sum_scaled_right program.columns k (λ c. coefficient program row c) point in
    let second : sum_below program.rows (λ j. B program row (program.columns + j) *ℤ z (program.columns + j)) ≡ z (program.columns + row) =
    sum_one program.rows row (λ j. B program row (program.columns + j) *ℤ z (program.columns + j)) h (λ j hj differ. ap (λ x. x *ℤ z (program.columns + j)) (built_slack program is row j h hj ∙ unit_elsewhere program.rows row j differ) ∙ zero_times (z (program.columns + j)))
    ∙ ap (λ x. x *ℤ z (program.columns + row)) (built_slack program is row row h h ∙ unit_here program.rows row) ∙ one_times (z (program.columns + row)) in
    let whole : k *ℤ row_sum program row point +ℤ z (program.columns + row) ≡ k *ℤ (d *ℤ entry program.right_sides row) =
    ap₂ (λ x y. x +ℤ y) (sym first) (sym second) ∙ sym (sum_parts program.columns program.rows (λ c. B program row c *ℤ z c))
    ∙ sum_same n (λ c. B program row c *ℤ z c) (λ c. entry_at (built program) row c *ℤ z c) (λ c hc. ap (λ x. x *ℤ z c) (sym (at c)))
    ∙ solves ∙ ap (λ x. (k *ℤ d) *ℤ x) (at n ∙ built_right_side program is row h) ∙ sym (assoc k d (entry program.right_sides row)) in
    at_most_from_product k (row_sum program row point) (d *ℤ entry program.right_sides row) (K_positive program plain basic)
    (split_last (k *ℤ row_sum program row point) (z (program.columns + row)) (k *ℤ (d *ℤ entry program.right_sides row)) (solution_not_negative program plain d basic times.positive (program.columns + row)) whole)

point_not_negative : (program : LinearProgram) (plain : SimplexTableau) (d : ℤ) (point : ℕ → ℤ) → Basic program plain → IsSolutionTimes program (kept plain) d point → (k : ℕ) → k < program.columns → pos 0 ≤ℤ point k
point_not_negative program plain d point basic times k h =
    not_negative_from_product (K program (kept plain)) (point k) (K_positive program plain basic) (subst (λ z. pos 0 ≤ℤ z) (solution_is program plain d point basic times k h) (solution_not_negative program plain d basic times.positive k))

pub basic_of : (program : LinearProgram) → IsProgram program → IsCapped program → (pivots : ℕ) (plain : SimplexTableau) → RunsTo (built program) pivots plain → Basic program plain
basic_of program is capped pivots plain run = record { held = reached program is capped pivots plain run; all = combined program is capped pivots plain run }

pub basic_solution_satisfies : BasicSolutionSatisfies
basic_solution_satisfies program tableau times point (is, capped, pivots, plain, run, kept_is) solution_times =
    let basic = basic_of program is capped pivots plain run in
    let there = subst (λ t. IsSolutionTimes program t times point) kept_is solution_times in
    record { not_negative = point_not_negative program plain times point basic there; satisfies = satisfied program is plain times point basic there }

-- the product of the entries of all basic columns times the basic solution is whole
solution_whole : (program : LinearProgram) (plain : SimplexTableau) → Basic program plain → (k : ℕ) (value : ℤ × ℤ) → IsValueOf (kept plain) k value → value.1 *ℤ solution program (kept plain) (pos 1) k ≡ K program (kept plain) *ℤ value.0
unfolding solution pick
solution_whole program plain basic k value is =
    let t = kept plain in
    by_row (λ o. MatchOption o (value ≡ (pos 0, pos 1)) (λ row. value ≡ (right_side t row, entry_at t row k)) → o ≡ row_of plain k → value.1 *ℤ pick (λ i. (pos 1 *ℤ right_side t i) *ℤ rest program t i) o ≡ K program t *ℤ value.0) (row_of plain k)
    (λ e value_is same. times_zero value.1 ∙ sym (ap (λ (v : ℤ × ℤ). K program t *ℤ v.0) value_is ∙ times_zero (K program t)))
    (λ row e value_is same.
    let f = found plain k row e in
    let inside : row < program.rows = omega (arith, f.0, basic.held.count) in
    let part = (pos 1 *ℤ right_side t row) *ℤ rest program t row in
    ap (λ (v : ℤ × ℤ). v.1 *ℤ part) value_is ∙ ap (λ j. entry_at t row j *ℤ part) (sym f.1)
    ∙ move_out (own t row) (pos 1) (right_side t row) (rest program t row)
    ∙ ap (λ x. (x *ℤ pos 1) *ℤ right_side t row) (cofactor_is program.rows row (own t) inside)
    ∙ ap (λ x. x *ℤ right_side t row) (times_one (K program t)) ∙ sym (ap (λ (v : ℤ × ℤ). K program t *ℤ v.0) value_is))
    is refl

pub basic_solution_exists : BasicSolutionExists
basic_solution_exists program tableau (is, capped, pivots, plain, run, kept_is) =
    let basic = basic_of program is capped pivots plain run in
    subst (λ t. (times : ℤ) × (point : ℕ → ℤ) × IsSolutionTimes program t times point) (sym kept_is)
    (K program (kept plain), solution program (kept plain) (pos 1), record { positive = K_positive program plain basic; values = λ k h value is_value. solution_whole program plain basic k value is_value })
