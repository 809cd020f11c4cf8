-- Column 0 of the basic solution is what the multipliers make of the right sides.
use Rattle.std.proofs.Common.{◌≡◌, ℕ, ◌+◌, length, sym, ap, ap₂, ◌∙◌, subst, arith}
use lib.IntN.{ℤ, pos, ◌+ℤ◌, ◌-ℤ◌, ◌*ℤ◌, neg_ℤ}
use borrow.Author.Differences.{same_out}
use Rattle.pivot_definitions.specs.Programs.{LinearProgram, IsProgram, coefficient}
use Rattle.pivot_definitions.specs.Tableaus.{SimplexTableau, objective, multiplier_of, kept}
use Rattle.pivot_definitions.specs.Duality.{sum_below, right_side_sum, CombinesToObjective, IsSolutionTimes, LevelIsBound}
use Rattle.pivot_definitions.proofs.Ring.{dif_is, difs, dif_same, linear, mul_pos, same_from_product, zero_times, one_times, times_one}
use Rattle.pivot_definitions.proofs.Start.{unit_facts, built_coefficient}
use Rattle.pivot_definitions.proofs.Signs.{multiple}
use Rattle.pivot_definitions.proofs.Sums.{sum_same, sum_scaled, sum_one, sum_none}
use Rattle.pivot_definitions.proofs.Duality.{U, surplus}
use Rattle.pivot_definitions.proofs.Optimum.{S, scale_of, scale_is, multiplied, add_negative}
use Rattle.pivot_definitions.proofs.Solutions.{Basic, basic_of, solution, solution_is, solves_plain, no_part, K, K_positive, wide}

left_side : (g k d o : ℤ) → g *ℤ pos 0 -ℤ (k *ℤ d) *ℤ (g *ℤ o) ≡ (g *ℤ k) *ℤ (d *ℤ neg_ℤ o)
left_side g k d o = rw (dif_is g, dif_is k, dif_is d, dif_is o) (simp difs (dif_same _ _ _ _ (omega arith)))

right_part : (g s k p d : ℤ) → (g *ℤ s) *ℤ (k *ℤ p -ℤ (k *ℤ d) *ℤ pos 0) ≡ (g *ℤ k) *ℤ (s *ℤ p)
right_part g s k p d = rw (dif_is g, dif_is s, dif_is k, dif_is p, dif_is d) (simp difs (dif_same _ _ _ _ (omega arith)))

-- there is one scale
scale_same : (program : LinearProgram) → IsProgram program → (plain : SimplexTableau) (scale : ℤ) → Basic program plain → CombinesToObjective program (kept plain) scale → scale ≡ scale_of program (kept plain)
scale_same program is plain scale basic combines =
    sym (times_one scale) ∙ sym (combines.columns 0 is.some_column)
    ∙ ap (λ x. objective (kept plain) 0 +ℤ x) (multiplied program (kept plain) 0 (λ j. coefficient program j 0) basic.held.columns (λ j hj. sym (built_coefficient program is j 0 hj is.some_column)))
    ∙ add_negative (objective (kept plain) 0) (S program (kept plain) 0)

level_kept : (program : LinearProgram) → IsProgram program → (plain : SimplexTableau) (scale d : ℤ) (point : ℕ → ℤ) → Basic program plain → CombinesToObjective program (kept plain) scale → IsSolutionTimes program (kept plain) d point → scale *ℤ point 0 ≡ d *ℤ right_side_sum program (multiplier_of (kept plain))
level_kept program is plain scale d point basic combines times =
    let some = is.some_column in
    let n = program.columns + program.rows in
    let last = length plain.basis in
    let m = multiple plain last in
    let k = K program (kept plain) in
    let z = solution program (kept plain) d in
    let rows = basic.held.feasible.shape.row_count in
    let count = basic.held.count in
    let O = objective (kept plain) in
    let factor : m.factor *ℤ scale ≡ basic.all.scale = ap (λ x. m.factor *ℤ x) (scale_same program is plain scale basic combines) ∙ scale_is program plain basic.all in
    let no_sum : sum_below n (λ c. objective plain c *ℤ z c) ≡ m.factor *ℤ pos 0 =
    sum_same n (λ c. objective plain c *ℤ z c) (λ c. (m.factor *ℤ O c) *ℤ z c) (λ c h. ap (λ x. x *ℤ z c) (m.entries c)) ∙ sum_scaled n m.factor O z
    ∙ ap (λ x. m.factor *ℤ x) (sum_none n (λ c. O c *ℤ z c) (λ c h. no_part program plain d basic last c (omega (arith, rows)) (λ below. absurd (omega (arith, count, below))))) in
    let left : surplus program (objective plain) z (k *ℤ d) ≡ (m.factor *ℤ k) *ℤ (d *ℤ neg_ℤ (O n)) = ap₂ (λ x y. x -ℤ (k *ℤ d) *ℤ y) no_sum (m.entries n) ∙ left_side m.factor k d (O n) in
    let level : sum_below n (λ c. U program c *ℤ z c) ≡ k *ℤ point 0 =
    sum_one n 0 (λ c. U program c *ℤ z c) (omega arith) (λ c h differ. ap (λ x. x *ℤ z c) ((unit_facts program).elsewhere c differ) ∙ zero_times (z c)) ∙ one_times (z 0) ∙ solution_is program plain d point basic times 0 some in
    let right : basic.all.scale *ℤ surplus program (U program) z (k *ℤ d) ≡ (m.factor *ℤ k) *ℤ (scale *ℤ point 0) =
    ap₂ (λ x y. x *ℤ y) (sym factor) (ap₂ (λ x y. x -ℤ (k *ℤ d) *ℤ y) level ((unit_facts program).elsewhere n (omega arith))) ∙ right_part m.factor scale k (point 0) d in
    let value = sym right ∙ sym (basic.all.value z (k *ℤ d) (solves_plain program plain d basic)) ∙ left in
    let bound : neg_ℤ (O n) ≡ right_side_sum program (multiplier_of (kept plain)) =
    (let e : O n +ℤ right_side_sum program (multiplier_of (kept plain)) ≡ pos 0 = ap (λ c. O c +ℤ right_side_sum program (multiplier_of (kept plain))) (sym (wide program plain basic)) ∙ combines.right_sides in
    omega (arith, linear, same_out _ _ e)) in
    same_from_product (m.factor *ℤ k) (scale *ℤ point 0) (d *ℤ neg_ℤ (O n)) (mul_pos m.factor k m.positive (K_positive program plain basic)) value ∙ ap (λ x. d *ℤ x) bound

pub level_is_bound : LevelIsBound
level_is_bound program tableau scale times point (is, capped, pivots, plain, run, kept_is) combines solution_times =
    let basic = basic_of program is capped pivots plain run in
    subst (λ t. scale *ℤ point 0 ≡ times *ℤ right_side_sum program (multiplier_of t)) (sym kept_is)
    (level_kept program is plain scale times point basic (subst (λ t. CombinesToObjective program t scale) kept_is combines) (subst (λ t. IsSolutionTimes program t times point) kept_is solution_times))
