-- A basis fixes the objective row up to positive multiples. All tableaus of a walk have the same solutions, and at each of them the
-- objective rows' sums are in one proportion. Along a column that is not basic an objective row sees that column alone, so where
-- the basis is the same the objective rows are in that proportion too, column by column, and at the right side.
use Rattle.std.proofs.Common.{◌≡◌, ◌≢◌, ℕ, zero, suc, ◌≤◌, sym, ap, ◌∙◌, arith}
use lib.IntN.{ℤ, pos, ◌-ℤ◌, ◌*ℤ◌}
use lib.Signed.{◌<ℤ◌}
use Rattle.pivot_definitions.specs.Programs.{LinearProgram}
use Rattle.pivot_definitions.specs.Tableaus.{SimplexTableau, entry_at}
use Rattle.pivot_definitions.proofs.Ring.{by_eq, dif_is, difs, dif_same, linear, mul_pos, same_from_product, one_times, times_zero}
use Rattle.pivot_definitions.proofs.Sums.{sum_same, sum_linear}
use Rattle.bland_laws.proofs.Walks.{N, Step, Walk}
use Rattle.bland_laws.proofs.Directions.{IsBasic, total, Solves, along, size, size_positive, along_solves, objective_along}

-- ---- one pivot

-- a row's sum after a pivot
total_step : (program : LinearProgram) (t u : SimplexTableau) (p q : ℕ) → Step program t u p q → (i : ℕ) → i ≤ program.rows → i ≢ p → (y : ℕ → ℤ) → total program u i y ≡ entry_at t p q *ℤ total program t i y -ℤ entry_at t i q *ℤ total program t p y
total_step program t u p q step i h ne y =
    sum_same (suc (N program)) (λ k. entry_at u i k *ℤ y k) (λ k. (entry_at t p q *ℤ entry_at t i k -ℤ entry_at t i q *ℤ entry_at t p k) *ℤ y k) (λ k hk. ap (λ x. x *ℤ y k) (step.other i k h ne))
    ∙ sum_linear (suc (N program)) (entry_at t p q) (entry_at t i q) (entry_at t i) (entry_at t p) y

total_same : (program : LinearProgram) (t u : SimplexTableau) (p q : ℕ) → Step program t u p q → (y : ℕ → ℤ) → total program u p y ≡ total program t p y
total_same program t u p q step y = sum_same (suc (N program)) (λ k. entry_at u p k *ℤ y k) (λ k. entry_at t p k *ℤ y k) (λ k hk. ap (λ x. x *ℤ y k) (step.same k))

no_more : (a b c : ℤ) → a *ℤ c -ℤ b *ℤ pos 0 ≡ a *ℤ c
no_more a b c = rw (dif_is a, dif_is b, dif_is c) (simp difs (dif_same _ _ _ _ (omega arith)))

-- where the pivot row's sum is 0, the others are multiplied by the pivot entry
total_scaled : (program : LinearProgram) (t u : SimplexTableau) (p q : ℕ) → Step program t u p q → (i : ℕ) → i ≤ program.rows → i ≢ p → (y : ℕ → ℤ) → total program t p y ≡ pos 0 → total program u i y ≡ entry_at t p q *ℤ total program t i y
total_scaled program t u p q step i h ne y none = total_step program t u p q step i h ne y ∙ ap (λ x. entry_at t p q *ℤ total program t i y -ℤ entry_at t i q *ℤ x) none ∙ no_more (entry_at t p q) (entry_at t i q) (total program t i y)

pub solves_after : (program : LinearProgram) (t u : SimplexTableau) (p q : ℕ) → Step program t u p q → (y : ℕ → ℤ) → Solves program t y → Solves program u y
solves_after program t u p q step y solves i h = by_eq i p
    (λ e. ap (λ j. total program u j y) e ∙ total_same program t u p q step y ∙ solves p step.row)
    (λ ne. total_scaled program t u p q step i (omega arith) ne y (solves p step.row) ∙ ap (λ x. entry_at t p q *ℤ x) (solves i h) ∙ times_zero (entry_at t p q))

pub solves_before : (program : LinearProgram) (t u : SimplexTableau) (p q : ℕ) → Step program t u p q → (y : ℕ → ℤ) → Solves program u y → Solves program t y
solves_before program t u p q step y solves i h =
    let at_p : total program t p y ≡ pos 0 = sym (total_same program t u p q step y) ∙ solves p step.row in by_eq i p
    (λ e. ap (λ j. total program t j y) e ∙ at_p)
    (λ ne. same_from_product (entry_at t p q) (total program t i y) (pos 0) step.entry_positive
    (sym (total_scaled program t u p q step i (omega arith) ne y at_p) ∙ solves i h ∙ sym (times_zero (entry_at t p q))))

-- ---- the walk

-- the product of the pivot entries so far
abbrev pub scale : (program : LinearProgram) (n : ℕ) → Walk program n → ℕ → ℤ
scale program n w zero = pos 1
scale program n w (suc k) = entry_at (w.at k) (w.row k) (w.column k) *ℤ scale program n w k

pub scale_positive : (program : LinearProgram) (n : ℕ) (w : Walk program n) (k : ℕ) → k ≤ n → pos 0 <ℤ scale program n w k
scale_positive program n w zero h = omega (arith, linear)
scale_positive program n w (suc k) h = mul_pos (entry_at (w.at k) (w.row k) (w.column k)) (scale program n w k) (w.step k (omega arith)).entry_positive (scale_positive program n w k (omega arith))

from_start : (program : LinearProgram) (n : ℕ) (w : Walk program n) (k : ℕ) → k ≤ n → (y : ℕ → ℤ) → Solves program (w.at 0) y → Solves program (w.at k) y
from_start program n w zero h y solves = solves
from_start program n w (suc k) h y solves = solves_after program (w.at k) (w.at (suc k)) (w.row k) (w.column k) (w.step k (omega arith)) y (from_start program n w k (omega arith) y solves)

to_start : (program : LinearProgram) (n : ℕ) (w : Walk program n) (k : ℕ) → k ≤ n → (y : ℕ → ℤ) → Solves program (w.at k) y → Solves program (w.at 0) y
to_start program n w zero h y solves = solves
to_start program n w (suc k) h y solves = to_start program n w k (omega arith) y (solves_before program (w.at k) (w.at (suc k)) (w.row k) (w.column k) (w.step k (omega arith)) y solves)

regroup : (p s x : ℤ) → p *ℤ (s *ℤ x) ≡ (p *ℤ s) *ℤ x
regroup p s x = rw (dif_is p, dif_is s, dif_is x) (simp difs (dif_same _ _ _ _ (omega arith)))

objective_from_start : (program : LinearProgram) (n : ℕ) (w : Walk program n) (k : ℕ) → k ≤ n → (y : ℕ → ℤ) → Solves program (w.at 0) y → total program (w.at k) program.rows y ≡ scale program n w k *ℤ total program (w.at 0) program.rows y
objective_from_start program n w zero h y solves = sym (one_times (total program (w.at 0) program.rows y))
objective_from_start program n w (suc k) h y solves =
    let step = w.step k (omega arith) in
    let inside = step.row in
    total_scaled program (w.at k) (w.at (suc k)) (w.row k) (w.column k) step program.rows (omega arith) (omega (arith, inside)) y (from_start program n w k (omega arith) y solves (w.row k) step.row)
    ∙ ap (λ x. entry_at (w.at k) (w.row k) (w.column k) *ℤ x) (objective_from_start program n w k (omega arith) y solves)
    ∙ regroup (entry_at (w.at k) (w.row k) (w.column k)) (scale program n w k) (total program (w.at 0) program.rows y)

swapped : (a b x : ℤ) → a *ℤ (b *ℤ x) ≡ b *ℤ (a *ℤ x)
swapped a b x = rw (dif_is a, dif_is b, dif_is x) (simp difs (dif_same _ _ _ _ (omega arith)))

-- at each solution the objective rows' sums are in the proportion of the products
pub objectives_meet : (program : LinearProgram) (n : ℕ) (w : Walk program n) (i j : ℕ) → i ≤ n → j ≤ n → (y : ℕ → ℤ) → Solves program (w.at i) y → scale program n w j *ℤ total program (w.at i) program.rows y ≡ scale program n w i *ℤ total program (w.at j) program.rows y
objectives_meet program n w i j hi hj y solves =
    let first = to_start program n w i hi y solves in
    ap (λ x. scale program n w j *ℤ x) (objective_from_start program n w i hi y first)
    ∙ swapped (scale program n w j) (scale program n w i) (total program (w.at 0) program.rows y)
    ∙ ap (λ x. scale program n w i *ℤ x) (sym (objective_from_start program n w j hj y first))

to_front : (a x k : ℤ) → k *ℤ (a *ℤ x) ≡ a *ℤ (x *ℤ k)
to_front a x k = rw (dif_is a, dif_is x, dif_is k) (simp difs (dif_same _ _ _ _ (omega arith)))

-- two tableaus of one basis have their objective rows in that proportion in each column that is not basic, and at the right side
pub basis_fixes_objective : (program : LinearProgram) (n : ℕ) (w : Walk program n) (i j : ℕ) → i ≤ n → j ≤ n → ((k : ℕ) → IsBasic program (w.at i) k → IsBasic program (w.at j) k)
    → (s : ℕ) → s ≤ N program → ¬ IsBasic program (w.at i) s → scale program n w j *ℤ entry_at (w.at i) program.rows s ≡ scale program n w i *ℤ entry_at (w.at j) program.rows s
basis_fixes_objective program n w i j hi hj basic s within not_basic =
    let t = w.at i in
    let y = along program t s in
    let known = w.known i hi in
    same_from_product (size program t) (scale program n w j *ℤ entry_at t program.rows s) (scale program n w i *ℤ entry_at (w.at j) program.rows s) (size_positive program t known)
    (to_front (scale program n w j) (entry_at t program.rows s) (size program t)
    ∙ ap (λ x. scale program n w j *ℤ x) (sym (objective_along program t t s known within (λ k h. h)))
    ∙ objectives_meet program n w i j hi hj y (along_solves program t s known within not_basic)
    ∙ ap (λ x. scale program n w i *ℤ x) (objective_along program t (w.at j) s (w.known j hj) within basic)
    ∙ sym (to_front (scale program n w i) (entry_at (w.at j) program.rows s) (size program t)))
