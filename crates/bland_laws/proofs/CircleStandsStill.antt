-- In a walk from a basis back to itself the objective stands still, since it never falls and is the same at both ends. So each pivot
-- has right side 0 in its pivot row, and a column that is not basic in one of the tableaus has value 0 in all.
use Rattle.std.proofs.Common.{◌≡◌, ℕ, zero, suc, ◌<◌, ◌≤◌, sym, ap, ap₂, ◌∙◌, subst, arith}
use lib.IntN.{ℤ, pos, ◌+ℤ◌, ◌-ℤ◌, ◌*ℤ◌}
use lib.Signed.{◌<ℤ◌, ◌≤ℤ◌}
use borrow.Author.Differences.{same_out}
use Rattle.pivot_definitions.specs.Programs.{LinearProgram}
use Rattle.pivot_definitions.specs.Tableaus.{SimplexTableau, entry_at, basic_column}
use Rattle.pivot_definitions.proofs.Ring.{by_eq, dif_is, difs, dif_same, linear, mul_not_negative, same_from_product, times_zero}
use Rattle.bland_laws.proofs.Walks.{N, Step, Walk}
use Rattle.bland_laws.proofs.Directions.{IsBasic}
use Rattle.bland_laws.proofs.BasisFixesObjective.{scale, scale_positive, basis_fixes_objective}

-- a part of a walk whose last tableau has the same basic columns as its first
pub record Circle (program : LinearProgram) (n : ℕ) (w : Walk program n) (a b : ℕ) : Type 0 where
  pub some_pivot : a < b
  pub inside : b ≤ n
  pub forth : (c : ℕ) → IsBasic program (w.at a) c → IsBasic program (w.at b) c
  pub back : (c : ℕ) → IsBasic program (w.at b) c → IsBasic program (w.at a) c

-- ---- the objective

-- how far the objective has risen since the first tableau
abbrev rise : (program : LinearProgram) (n : ℕ) → Walk program n → ℕ → ℕ → ℤ
rise program n w a k = scale program n w k *ℤ entry_at (w.at a) program.rows (N program) -ℤ scale program n w a *ℤ entry_at (w.at k) program.rows (N program)

rise_after : (p s x g y o r : ℤ) → (p *ℤ s) *ℤ x -ℤ g *ℤ (p *ℤ y -ℤ o *ℤ r) ≡ p *ℤ (s *ℤ x -ℤ g *ℤ y) +ℤ g *ℤ (o *ℤ r)
rise_after p s x g y o r = rw (dif_is p, dif_is s, dif_is x, dif_is g, dif_is y, dif_is o, dif_is r) (simp difs (dif_same _ _ _ _ (omega arith)))

rise_step : (program : LinearProgram) (n : ℕ) (w : Walk program n) (a k : ℕ) → k < n → rise program n w a (suc k) ≡ entry_at (w.at k) (w.row k) (w.column k) *ℤ rise program n w a k +ℤ scale program n w a *ℤ (entry_at (w.at k) program.rows (w.column k) *ℤ entry_at (w.at k) (w.row k) (N program))
rise_step program n w a k h =
    let step = w.step k h in
    let row = step.row in
    let p = entry_at (w.at k) (w.row k) (w.column k) in
    let s = scale program n w k in
    let x = entry_at (w.at a) program.rows (N program) in
    let g = scale program n w a in
    let y = entry_at (w.at k) program.rows (N program) in
    let o = entry_at (w.at k) program.rows (w.column k) in
    let r = entry_at (w.at k) (w.row k) (N program) in
    ap (λ z. (p *ℤ s) *ℤ x -ℤ g *ℤ z) (step.other program.rows (N program) (omega arith) (omega (arith, row))) ∙ rise_after p s x g y o r

none_at_first : (g x : ℤ) → pos 0 ≤ℤ (g *ℤ x -ℤ g *ℤ x)
none_at_first g x = omega (arith, linear)

-- the two parts by which the objective rises are not negative
gain_not_negative : (program : LinearProgram) (n : ℕ) (w : Walk program n) (a k : ℕ) → a ≤ n → k < n → pos 0 ≤ℤ (scale program n w a *ℤ (entry_at (w.at k) program.rows (w.column k) *ℤ entry_at (w.at k) (w.row k) (N program)))
gain_not_negative program n w a k ha h =
    let step = w.step k h in
    let s = scale_positive program n w a ha in
    let o = step.enters in
    let r = (w.known k (omega arith)).not_negative (w.row k) step.row in
    mul_not_negative (scale program n w a) (entry_at (w.at k) program.rows (w.column k) *ℤ entry_at (w.at k) (w.row k) (N program)) (omega (arith, linear, s))
    (mul_not_negative (entry_at (w.at k) program.rows (w.column k)) (entry_at (w.at k) (w.row k) (N program)) (omega (arith, linear, o)) r)

rise_not_negative : (program : LinearProgram) (n : ℕ) (w : Walk program n) (a k : ℕ) → a ≤ k → k ≤ n → pos 0 ≤ℤ rise program n w a k
rise_not_negative program n w a zero low high =
    (let e : 0 ≡ a = omega arith in subst (λ j. pos 0 ≤ℤ rise program n w a j) (sym e) (none_at_first (scale program n w a) (entry_at (w.at a) program.rows (N program))))
rise_not_negative program n w a (suc k) low high = by_eq (suc k) a
    (λ e. subst (λ j. pos 0 ≤ℤ rise program n w a j) (sym e) (none_at_first (scale program n w a) (entry_at (w.at a) program.rows (N program))))
    (λ ne.
    let before = rise_not_negative program n w a k (omega arith) (omega arith) in
    let positive = (w.step k (omega arith)).entry_positive in
    let kept = mul_not_negative (entry_at (w.at k) (w.row k) (w.column k)) (rise program n w a k) (omega (arith, linear, positive)) before in
    let gain = gain_not_negative program n w a k (omega arith) (omega arith) in
    let e = rise_step program n w a k (omega arith) in
    omega (arith, linear, kept, gain, same_out _ _ e))

zero_first : (x y : ℤ) → x +ℤ y ≡ pos 0 → pos 0 ≤ℤ x → pos 0 ≤ℤ y → x ≡ pos 0
zero_first x y e h k = omega (arith, linear, same_out _ _ e, h, k)

zero_second : (x y : ℤ) → x +ℤ y ≡ pos 0 → pos 0 ≤ℤ x → pos 0 ≤ℤ y → y ≡ pos 0
zero_second x y e h k = omega (arith, linear, same_out _ _ e, h, k)

zero_factor : (a x : ℤ) → pos 0 <ℤ a → a *ℤ x ≡ pos 0 → x ≡ pos 0
zero_factor a x h e = same_from_product a x (pos 0) h (e ∙ sym (times_zero a))

-- where the objective has not risen at last, each pivot row's right side was 0
right_side_zero : (program : LinearProgram) (n : ℕ) (w : Walk program n) (a k : ℕ) → k ≤ n → rise program n w a k ≡ pos 0 → (m : ℕ) → a ≤ m → m < k → entry_at (w.at m) (w.row m) (N program) ≡ pos 0
right_side_zero program n w a zero inside none m low high = absurd (omega arith)
right_side_zero program n w a (suc k) inside none m low high =
    let step = w.step k (omega arith) in
    let p = entry_at (w.at k) (w.row k) (w.column k) in
    let positive = step.entry_positive in
    let o = entry_at (w.at k) program.rows (w.column k) in
    let r = entry_at (w.at k) (w.row k) (N program) in
    let before = rise_not_negative program n w a k (omega arith) (omega arith) in
    let kept = mul_not_negative p (rise program n w a k) (omega (arith, linear, positive)) before in
    let gain = gain_not_negative program n w a k (omega arith) (omega arith) in
    let sum = sym (rise_step program n w a k (omega arith)) ∙ none in
    by_eq m k
    (λ e. subst (λ j. entry_at (w.at j) (w.row j) (N program) ≡ pos 0) (sym e)
    (zero_factor o r step.enters (zero_factor (scale program n w a) (o *ℤ r) (scale_positive program n w a (omega arith))
    (zero_second (p *ℤ rise program n w a k) (scale program n w a *ℤ (o *ℤ r)) sum kept gain))))
    (λ ne. right_side_zero program n w a k (omega arith)
    (zero_factor p (rise program n w a k) positive (zero_first (p *ℤ rise program n w a k) (scale program n w a *ℤ (o *ℤ r)) sum kept gain))
    m low (omega arith))

same_is_none : (x y : ℤ) → x ≡ y → x -ℤ y ≡ pos 0
same_is_none x y e = omega (arith, linear, same_out _ _ e)

-- in a circle each pivot row's right side is 0
pub circle_stands_still : (program : LinearProgram) (n : ℕ) (w : Walk program n) (a b : ℕ) → Circle program n w a b → (m : ℕ) → a ≤ m → m < b → entry_at (w.at m) (w.row m) (N program) ≡ pos 0
circle_stands_still program n w a b circle m low high =
    let ends = circle.some_pivot in
    let inside = circle.inside in
    let first : a ≤ n = omega (arith, ends, inside) in
    right_side_zero program n w a b inside
    (same_is_none (scale program n w b *ℤ entry_at (w.at a) program.rows (N program)) (scale program n w a *ℤ entry_at (w.at b) program.rows (N program))
    (basis_fixes_objective program n w a b first inside circle.forth (N program) (omega arith) (λ basic. let below = (w.known a first).within basic.0 basic.1 in let e = basic.2 in omega (arith, below, e))))
    m low high

-- ---- the columns

-- the column's value is 0: it is basic in no row, or the row's right side is 0
abbrev pub IsIdle : LinearProgram → SimplexTableau → ℕ → Type 0
IsIdle program t c = (i : ℕ) → i < program.rows → basic_column t i ≡ c → entry_at t i (N program) ≡ pos 0

scaled_zero : (p x e r : ℤ) → x ≡ pos 0 → r ≡ pos 0 → p *ℤ x -ℤ e *ℤ r ≡ pos 0
scaled_zero p x e r h k = ap₂ (λ u v. p *ℤ u -ℤ e *ℤ v) h k ∙ (let z : p *ℤ pos 0 -ℤ e *ℤ pos 0 ≡ pos 0 = rw (dif_is p, dif_is e) (simp difs (dif_same _ _ _ _ (omega arith))) in z)

unscaled_zero : (p x e r : ℤ) → pos 0 <ℤ p → r ≡ pos 0 → p *ℤ x -ℤ e *ℤ r ≡ pos 0 → x ≡ pos 0
unscaled_zero p x e r h k none = zero_factor p x h ((let z : p *ℤ x ≡ p *ℤ x -ℤ e *ℤ pos 0 = rw (dif_is p, dif_is x, dif_is e) (simp difs (dif_same _ _ _ _ (omega arith))) in z) ∙ ap (λ v. p *ℤ x -ℤ e *ℤ v) (sym k) ∙ none)

idle_after : (program : LinearProgram) (t u : SimplexTableau) (p q : ℕ) → Step program t u p q → entry_at t p (N program) ≡ pos 0 → (c : ℕ) → IsIdle program t c → IsIdle program u c
idle_after program t u p q step none c idle i h basic = by_eq i p
    (λ e. subst (λ j. entry_at u j (N program) ≡ pos 0) (sym e) (step.same (N program) ∙ none))
    (λ ne. step.other i (N program) (omega arith) ne ∙ scaled_zero (entry_at t p q) (entry_at t i (N program)) (entry_at t i q) (entry_at t p (N program)) (idle i h (sym (step.stays i ne) ∙ basic)) none)

idle_before : (program : LinearProgram) (t u : SimplexTableau) (p q : ℕ) → Step program t u p q → entry_at t p (N program) ≡ pos 0 → (c : ℕ) → IsIdle program u c → IsIdle program t c
idle_before program t u p q step none c idle i h basic = by_eq i p
    (λ e. subst (λ j. entry_at t j (N program) ≡ pos 0) (sym e) none)
    (λ ne. unscaled_zero (entry_at t p q) (entry_at t i (N program)) (entry_at t i q) (entry_at t p (N program)) step.entry_positive none
    (sym (step.other i (N program) (omega arith) ne) ∙ idle i h (step.stays i ne ∙ basic)))

-- what each pivot keeps, both ways, holds in all tableaus if it does in one
to_first : (P : ℕ → Type 0) (a b : ℕ) → ((k : ℕ) → a ≤ k → k < b → P (suc k) → P k) → (j : ℕ) → a ≤ j → j ≤ b → P j → P a
to_first P a b before zero low high h = (let e : 0 ≡ a = omega arith in subst P e h)
to_first P a b before (suc j) low high h = by_eq (suc j) a (λ e. subst P e h) (λ ne. to_first P a b before j (omega arith) (omega arith) (before j (omega arith) (omega arith) h))

from_first : (P : ℕ → Type 0) (a b : ℕ) → ((k : ℕ) → a ≤ k → k < b → P k → P (suc k)) → (j : ℕ) → a ≤ j → j ≤ b → P a → P j
from_first P a b after zero low high h = (let e : a ≡ 0 = omega arith in subst P e h)
from_first P a b after (suc j) low high h = by_eq a (suc j) (λ e. subst P e h) (λ ne. after j (omega arith) (omega arith) (from_first P a b after j (omega arith) (omega arith) h))

-- a column that is not basic in one tableau of a circle has value 0 in all
pub idle_in_all : (program : LinearProgram) (n : ℕ) (w : Walk program n) (a b : ℕ) → Circle program n w a b → (c j : ℕ) → a ≤ j → j ≤ b → ¬ IsBasic program (w.at j) c → (i : ℕ) → a ≤ i → i ≤ b → IsIdle program (w.at i) c
idle_in_all program n w a b circle c j low high not_basic i low' high' =
    let inside = circle.inside in
    let P : ℕ → Type 0 = λ k. IsIdle program (w.at k) c in
    from_first P a b (λ k l h. idle_after program (w.at k) (w.at (suc k)) (w.row k) (w.column k) (w.step k (omega (arith, inside, h))) (circle_stands_still program n w a b circle k l h) c) i low' high'
    (to_first P a b (λ k l h. idle_before program (w.at k) (w.at (suc k)) (w.row k) (w.column k) (w.step k (omega (arith, inside, h))) (circle_stands_still program n w a b circle k l h) c) j low high
    (λ r h e. absurd (not_basic (r, h, e))))
