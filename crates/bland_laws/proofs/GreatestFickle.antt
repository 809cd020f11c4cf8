-- There is no circle. Of the columns that enter in one, let the greatest enter in the second tableau, and leave in the first while a
-- lower one enters. Along that one the first's objective rises, so the second's does, by some column: one that the second does not
-- let enter, since it is lower than the greatest, and that falls. It is basic in the first with a right side of 0, and so would leave
-- there before the greatest.
use Rattle.std.proofs.Common.{◌≡◌, ℕ, zero, suc, ◌<◌, ◌≤◌, ◌⊎◌, inl, inr, sym, ap, ◌∙◌, subst, arith}
use Rattle.std.proofs.lemmas.Int.{by_lt_z}
use Rattle.std.proofs.lemmas.Bool.{cases_lt}
use lib.IntN.{ℤ, pos, ◌*ℤ◌}
use lib.Signed.{◌<ℤ◌, ◌≤ℤ◌}
use borrow.Author.Differences.{same_out}
use Rattle.pivot_definitions.specs.Programs.{LinearProgram}
use Rattle.pivot_definitions.specs.Tableaus.{SimplexTableau, entry_at, basic_column}
use Rattle.pivot_definitions.proofs.Ring.{by_eq, dif_is, difs, dif_same, linear, mul_pos, mul_not_positive, mul_negative, positive_from_product, times_zero, zero_times}
use Rattle.bland_laws.proofs.Walks.{N, Known, Step, Walk, row_is_one}
use Rattle.bland_laws.proofs.Directions.{IsBasic, basic_or_not, positive_term, total, along, size, size_positive, along_itself, along_other, along_solves, objective_along, along_falls, along_drops}
use Rattle.bland_laws.proofs.BasisFixesObjective.{scale, scale_positive, objectives_meet}
use Rattle.bland_laws.proofs.CircleStandsStill.{Circle, circle_stands_still, idle_in_all}

-- ---- what enters and what leaves

not_basic_enters : (program : LinearProgram) (t u : SimplexTableau) (p q : ℕ) → Known program t → Step program t u p q → ¬ IsBasic program t q
not_basic_enters program t u p q known step basic =
    let h = basic.1 in
    let z : entry_at t program.rows q ≡ pos 0 = subst (λ j. entry_at t program.rows j ≡ pos 0) basic.2 (known.zero_elsewhere basic.0 program.rows h (omega arith) (omega (arith, h))) in
    let positive = step.enters in
    omega (arith, linear, same_out _ _ z, positive)

leaves_alone : (program : LinearProgram) (t u : SimplexTableau) (p q : ℕ) → Step program t u p q → (c : ℕ) → IsBasic program t c → ¬ IsBasic program u c → basic_column t p ≡ c
leaves_alone program t u p q step c basic gone = by_eq basic.0 p
    (λ e. ap (basic_column t) (sym e) ∙ basic.2)
    (λ ne. absurd (gone (basic.0, basic.1, step.stays basic.0 ne ∙ basic.2)))

enters_alone : (program : LinearProgram) (t u : SimplexTableau) (p q : ℕ) → Step program t u p q → (c : ℕ) → ¬ IsBasic program t c → IsBasic program u c → q ≡ c
enters_alone program t u p q step c before basic = by_eq basic.0 p
    (λ e. sym step.basic ∙ ap (basic_column u) (sym e) ∙ basic.2)
    (λ ne. absurd (before (basic.0, basic.1, sym (step.stays basic.0 ne) ∙ basic.2)))

-- what holds at first and not at last ceases somewhere
ceases : (P : ℕ → Type 0) → ((k : ℕ) → P k ⊎ ¬ P k) → (a b : ℕ) → a ≤ b → P a → ¬ P b → (k : ℕ) × (a ≤ k) × (k < b) × P k × ¬ P (suc k)
ceases P decide a zero h first last = absurd (last (let e : a ≡ 0 = omega arith in subst P e first))
ceases P decide a (suc b) h first last = by_eq a (suc b)
    (λ e. absurd (last (subst P e first)))
    (λ ne. elim (decide b) [
      | inl there ↦ (b, omega arith, omega arith, there, last)
      | inr gone ↦ (let found = ceases P decide a b (omega arith) first gone in let inside = found.2 in (found.0, found.1, omega (arith, inside), found.3, found.4))
    ])

-- what does not hold at first and does at last begins somewhere
begins : (P : ℕ → Type 0) → ((k : ℕ) → P k ⊎ ¬ P k) → (a b : ℕ) → a ≤ b → ¬ P a → P b → (k : ℕ) × (a ≤ k) × (k < b) × (¬ P k) × P (suc k)
begins P decide a zero h first last = absurd (first (let e : 0 ≡ a = omega arith in subst P e last))
begins P decide a (suc b) h first last = by_eq a (suc b)
    (λ e. absurd (first (subst P (sym e) last)))
    (λ ne. elim (decide b) [
      | inl there ↦ (let found = begins P decide a b (omega arith) first there in let inside = found.2 in (found.0, found.1, omega (arith, inside), found.3, found.4))
      | inr gone ↦ (b, omega arith, omega arith, gone, last)
    ])

-- a column that is basic in one tableau of a circle and not in another enters in it
fickle_enters : (program : LinearProgram) (n : ℕ) (w : Walk program n) (a b : ℕ) → Circle program n w a b → (c i j : ℕ) → a ≤ i → i ≤ b → a ≤ j → j ≤ b → IsBasic program (w.at i) c → ¬ IsBasic program (w.at j) c → (m : ℕ) × (a ≤ m) × (m < b) × (w.column m ≡ c)
fickle_enters program n w a b circle c i j ai ib aj jb there gone =
    let inside = circle.inside in
    let P : ℕ → Type 0 = λ k. IsBasic program (w.at k) c in
    let decide : (k : ℕ) → P k ⊎ ¬ P k = λ k. basic_or_not program (w.at k) c in
    elim (decide a) [
      | inl first ↦
          (let found = begins P decide j b jb gone (circle.forth c first) in
          let low = found.1 in
          let high = found.2 in
          (found.0, omega (arith, aj, low), high, enters_alone program (w.at found.0) (w.at (suc found.0)) (w.row found.0) (w.column found.0) (w.step found.0 (omega (arith, inside, high))) c found.3 found.4))
      | inr first ↦
          (let found = begins P decide a i ai first there in
          let low = found.1 in
          let high = found.2 in
          (found.0, low, omega (arith, ib, high), enters_alone program (w.at found.0) (w.at (suc found.0)) (w.row found.0) (w.column found.0) (w.step found.0 (omega (arith, inside, ib, high))) c found.3 found.4))
    ]

-- and leaves in it
fickle_leaves : (program : LinearProgram) (n : ℕ) (w : Walk program n) (a b : ℕ) → Circle program n w a b → (c i j : ℕ) → a ≤ i → i ≤ b → a ≤ j → j ≤ b → IsBasic program (w.at i) c → ¬ IsBasic program (w.at j) c → (m : ℕ) × (a ≤ m) × (m < b) × (basic_column (w.at m) (w.row m) ≡ c)
fickle_leaves program n w a b circle c i j ai ib aj jb there gone =
    let inside = circle.inside in
    let P : ℕ → Type 0 = λ k. IsBasic program (w.at k) c in
    let decide : (k : ℕ) → P k ⊎ ¬ P k = λ k. basic_or_not program (w.at k) c in
    elim (decide a) [
      | inl first ↦
          (let found = ceases P decide a j aj first gone in
          let low = found.1 in
          let high = found.2 in
          (found.0, low, omega (arith, jb, high), leaves_alone program (w.at found.0) (w.at (suc found.0)) (w.row found.0) (w.column found.0) (w.step found.0 (omega (arith, inside, jb, high))) c found.3 found.4))
      | inr first ↦
          (let found = ceases P decide i b ib there (λ last. first (circle.back c last)) in
          let low = found.1 in
          let high = found.2 in
          (found.0, omega (arith, ai, low), high, leaves_alone program (w.at found.0) (w.at (suc found.0)) (w.row found.0) (w.column found.0) (w.step found.0 (omega (arith, inside, high))) c found.3 found.4))
    ]

-- the greatest of some numbers
greatest : (f : ℕ → ℕ) (a b : ℕ) → a < b → (m : ℕ) × (a ≤ m) × (m < b) × ((k : ℕ) → a ≤ k → k < b → f k ≤ f m)
greatest f a zero h = absurd (omega arith)
greatest f a (suc b) h = by_eq a b
    (λ e. (b, omega arith, omega arith, λ k low high. (let same : k ≡ b = omega arith in let x = ap f same in omega (arith, x))))
    (λ ne.
    let found = greatest f a b (omega arith) in
    let low = found.1 in
    let high = found.2 in
    elim (cases_lt (f found.0) (f b)) [
      | inl less ↦ (b, omega (arith, low, high), omega arith, λ k l u. by_eq k b (λ e. let x = ap f e in omega (arith, x)) (λ differ. let x = found.3 k l (omega arith) in omega (arith, x, less)))
      | inr more ↦ (found.0, low, omega (arith, high), λ k l u. by_eq k b (λ e. let x = ap f e in omega (arith, x, more)) (λ differ. found.3 k l (omega arith)))
    ])

-- ---- signs

turned : (x y : ℤ) → x *ℤ y ≡ y *ℤ x
turned x y = rw (dif_is x, dif_is y) (simp difs (dif_same _ _ _ _ (omega arith)))

not_zero_left : (x y : ℤ) → x ≡ pos 0 → pos 0 <ℤ (x *ℤ y) → ⊥
not_zero_left x y none h = let e = ap (λ z. z *ℤ y) none ∙ zero_times y in omega (arith, linear, h, same_out _ _ e)

not_zero_right : (x y : ℤ) → y ≡ pos 0 → pos 0 <ℤ (x *ℤ y) → ⊥
not_zero_right x y none h = let e = ap (λ z. x *ℤ z) none ∙ times_zero x in omega (arith, linear, h, same_out _ _ e)

not_one_negative : (x y : ℤ) → pos 0 <ℤ x → y <ℤ pos 0 → pos 0 <ℤ (x *ℤ y) → ⊥
not_one_negative x y h k positive = let z = mul_negative x y h k in omega (arith, linear, z, positive)

both_negative : (x y : ℤ) → x ≤ℤ pos 0 → pos 0 <ℤ (x *ℤ y) → y <ℤ pos 0
both_negative x y h positive = by_lt_z y (pos 0) (λ z. z) (λ z.
    let m = mul_not_positive y x z h in
    let e = turned x y in
    absurd (omega (arith, linear, m, positive, same_out _ _ e)))

no_less : (r e s d : ℤ) → r ≡ pos 0 → s ≡ pos 0 → (r *ℤ e) <ℤ (s *ℤ d) → ⊥
no_less r e s d h k less = let x = ap (λ z. z *ℤ e) h ∙ zero_times e in let y = ap (λ z. z *ℤ d) k ∙ zero_times d in omega (arith, linear, less, same_out _ _ x, same_out _ _ y)

-- ---- the contradiction

-- in the first tableau the greatest column leaves, and in the second it enters
record Meeting (program : LinearProgram) (n : ℕ) (w : Walk program n) (a b x y : ℕ) : Type 0 where
  circle : Circle program n w a b
  first_from : a ≤ x
  first_below : x < b
  second_from : a ≤ y
  second_below : y < b
  leaves : basic_column (w.at x) (w.row x) ≡ w.column y
  greatest_enters : (k : ℕ) → a ≤ k → k < b → w.column k ≤ w.column y

meeting : (program : LinearProgram) (n : ℕ) (w : Walk program n) (a b : ℕ) → Circle program n w a b → (x : ℕ) × (y : ℕ) × Meeting program n w a b x y
meeting program n w a b circle =
    let inside = circle.inside in
    let top = greatest w.column a b circle.some_pivot in
    let y = top.0 in
    let low = top.1 in
    let high = top.2 in
    let step = w.step y (omega (arith, inside, high)) in
    let found = fickle_leaves program n w a b circle (w.column y) (suc y) y (omega (arith, low)) (omega (arith, high)) low (omega (arith, high))
    (w.row y, step.row, step.basic)
    (not_basic_enters program (w.at y) (w.at (suc y)) (w.row y) (w.column y) (w.known y (omega (arith, inside, high))) step) in
    (found.0, y, record { circle = circle; first_from = found.1; first_below = found.2; second_from = low; second_below = high; leaves = found.3; greatest_enters = top.3 })

-- the column that enters in the first is lower
lower_enters : (program : LinearProgram) (n : ℕ) (w : Walk program n) (a b x y : ℕ) → Meeting program n w a b x y → x < n → w.column x < w.column y
lower_enters program n w a b x y m h =
    let first = w.step x h in
    let low = m.greatest_enters x m.first_from m.first_below in
    by_eq (w.column x) (w.column y)
    (λ e. absurd (not_basic_enters program (w.at x) (w.at (suc x)) (w.row x) (w.column x) (w.known x (omega arith)) first (w.row x, first.row, m.leaves ∙ sym e)))
    (λ ne. omega arith)

-- a basic column of the first by which the second's objective rises would leave there before the greatest
not_by_basic : (program : LinearProgram) (n : ℕ) (w : Walk program n) (a b x y : ℕ) → Meeting program n w a b x y → (hx : x < n) → (hy : y < n) → (k : ℕ) → IsBasic program (w.at x) k
    → pos 0 <ℤ (entry_at (w.at y) program.rows k *ℤ along program (w.at x) (w.column x) k) → ⊥
not_by_basic program n w a b x y m hx hy k basic positive =
    let circle = m.circle in
    let x_below = m.first_below in
    let y_below = m.second_below in
    let t = w.at x in
    let u = w.at y in
    let s = w.column x in
    let d = along program t s in
    let first = w.step x hx in
    let second = w.step y hy in
    let known = w.known x (omega arith) in
    let s_out : ¬ IsBasic program t s = not_basic_enters program t (w.at (suc x)) (w.row x) s known first in
    let i = basic.0 in
    let h = basic.1 in
    let gone : ¬ IsBasic program u k = λ there. (let j = there.1 in not_zero_left (entry_at u program.rows k) (d k) (subst (λ c. entry_at u program.rows c ≡ pos 0) there.2 ((w.known y (omega arith)).zero_elsewhere there.0 program.rows j (omega arith) (omega (arith, j)))) positive) in
    by_eq k (w.column y)
    (λ e.
    let same : w.row x ≡ i = row_is_one program t known (w.row x) i first.row h (m.leaves ∙ sym e ∙ sym basic.2) in
    let drops : d k <ℤ pos 0 = subst (λ c. d c <ℤ pos 0) basic.2 (along_drops program t s i known s_out h (subst (λ j. pos 0 <ℤ entry_at t j s) same first.entry_positive)) in
    not_one_negative (entry_at u program.rows k) (d k) (subst (λ c. pos 0 <ℤ entry_at u program.rows c) (sym e) second.enters) drops positive)
    (λ not_top.
    let enters = fickle_enters program n w a b circle k x y m.first_from (omega (arith, x_below)) m.second_from (omega (arith, y_below)) basic gone in
    let low = m.greatest_enters enters.0 enters.1 enters.2 in
    let is_column = enters.3 in
    let less : k < w.column y = omega (arith, low, is_column, not_top) in
    let falls = both_negative (entry_at u program.rows k) (d k) (second.lowest k less) positive in
    let candidate = along_falls program t s i known s_out h (subst (λ c. d c <ℤ pos 0) (sym basic.2) falls) in
    let right_p = circle_stands_still program n w a b circle x m.first_from x_below in
    let right_i = idle_in_all program n w a b circle k y m.second_from (omega (arith, y_below)) gone x m.first_from (omega (arith, x_below)) i h basic.2 in
    let leaving = m.leaves in
    let column = basic.2 in
    elim (first.least i h candidate (λ e. not_top (sym basic.2 ∙ ap (basic_column t) e ∙ m.leaves))) [
      | inl before ↦ no_less (entry_at t (w.row x) (N program)) (entry_at t i s) (entry_at t i (N program)) (entry_at t (w.row x) s) right_p right_i before
      | inr tie ↦ (let lower = tie.1 in omega (arith, lower, leaving, column, less))
    ])

-- no column can be the one by which the second's objective rises
no_column : (program : LinearProgram) (n : ℕ) (w : Walk program n) (a b x y : ℕ) → Meeting program n w a b x y → x < n → y < n → (k : ℕ)
    → pos 0 <ℤ (entry_at (w.at y) program.rows k *ℤ along program (w.at x) (w.column x) k) → ⊥
no_column program n w a b x y m hx hy k positive =
    let t = w.at x in
    let u = w.at y in
    let s = w.column x in
    let less = lower_enters program n w a b x y m hx in
    by_eq k s
    (λ e.
    let big = size_positive program t (w.known x (omega arith)) in
    let falls = both_negative (entry_at u program.rows k) (along program t s k) ((w.step y hy).lowest k (omega (arith, less, e))) positive in
    let z = ap (along program t s) e ∙ along_itself program t s in
    omega (arith, linear, falls, big, same_out _ _ z))
    (λ not_s. elim (basic_or_not program t k) [
      | inr out ↦ not_zero_right (entry_at u program.rows k) (along program t s k) (along_other program t s k not_s out) positive
      | inl basic ↦ not_by_basic program n w a b x y m hx hy k basic positive
    ])

-- the second's objective rises along the direction in which the first's does
second_rises : (program : LinearProgram) (n : ℕ) (w : Walk program n) (x y : ℕ) → x < n → y < n → pos 0 <ℤ total program (w.at y) program.rows (along program (w.at x) (w.column x))
second_rises program n w x y hx hy =
    let t = w.at x in
    let u = w.at y in
    let s = w.column x in
    let first = w.step x hx in
    let known = w.known x (omega arith) in
    let s_out : ¬ IsBasic program t s = not_basic_enters program t (w.at (suc x)) (w.row x) s known first in
    let s_in = first.column in
    let d = along program t s in
    let met = objectives_meet program n w x y (omega arith) (omega arith) d (along_solves program t s known (omega (arith, s_in)) s_out) in
    let rises : pos 0 <ℤ (scale program n w y *ℤ total program t program.rows d) =
    mul_pos (scale program n w y) (total program t program.rows d) (scale_positive program n w y (omega arith))
    (subst (λ z. pos 0 <ℤ z) (sym (objective_along program t t s known (omega (arith, s_in)) (λ k h. h))) (mul_pos (entry_at t program.rows s) (size program t) first.enters (size_positive program t known))) in
    positive_from_product (scale program n w x) (total program u program.rows d) (scale_positive program n w x (omega arith)) (subst (λ z. pos 0 <ℤ z) met rises)

never_meets : (program : LinearProgram) (n : ℕ) (w : Walk program n) (a b x y : ℕ) → Meeting program n w a b x y → ⊥
never_meets program n w a b x y m =
    let inside = m.circle.inside in
    let x_below = m.first_below in
    let y_below = m.second_below in
    let hx : x < n = omega (arith, inside, x_below) in
    let hy : y < n = omega (arith, inside, y_below) in
    let term = positive_term (suc (N program)) (λ k. entry_at (w.at y) program.rows k *ℤ along program (w.at x) (w.column x) k) (second_rises program n w x y hx hy) in
    no_column program n w a b x y m hx hy term.0 term.2

pub no_circle : (program : LinearProgram) (n : ℕ) (w : Walk program n) (a b : ℕ) → Circle program n w a b → ⊥
no_circle program n w a b circle = let found = meeting program n w a b circle in never_meets program n w a b found.0 found.1 found.2
