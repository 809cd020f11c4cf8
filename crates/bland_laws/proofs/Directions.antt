-- The direction along a column that is not basic: the column moves up, and each basic column moves so that every constraint row's
-- sum stays 0. The right side is a column here, so that the direction along it is the basic solution, with its sign turned.
use Rattle.std.proofs.Common.{◌≡◌, ◌≢◌, ℕ, zero, suc, ◌<◌, ◌≤◌, ◌⊎◌, ◌==◌, cond, inl, inr, refl, sym, ap, ap₂, ◌∙◌, subst, arith}
use Rattle.std.proofs.lemmas.Int.{by_lt_z}
use lib.IntN.{ℤ, pos, ◌+ℤ◌, ◌*ℤ◌, neg_ℤ}
use lib.Signed.{◌<ℤ◌}
use borrow.Author.Differences.{same_out}
use Rattle.pivot_definitions.specs.Programs.{LinearProgram}
use Rattle.pivot_definitions.specs.Tableaus.{SimplexTableau, entry_at, basic_column}
use Rattle.pivot_definitions.specs.Duality.{sum_below}
use Rattle.pivot_definitions.proofs.Ring.{by_eq, dif_is, difs, dif_same, linear, mul_pos, mul_not_positive, zero_times, times_zero}
use Rattle.pivot_definitions.proofs.Sums.{sum_one, sum_none, product_below, product_positive, cofactor, cofactor_is, cofactor_positive}
use Rattle.bland_laws.proofs.NumberTests.{cond_same, cond_other}
use Rattle.bland_laws.proofs.Walks.{N, Known, row_is_one}

-- ---- basic columns

-- a column is basic in a row
abbrev pub IsBasic : LinearProgram → SimplexTableau → ℕ → Type 0
IsBasic program t column = (i : ℕ) × (i < program.rows) × (basic_column t i ≡ column)

found_below : (n : ℕ) (f : ℕ → ℕ) (c : ℕ) → ((i : ℕ) × (i < n) × (f i ≡ c)) ⊎ ((i : ℕ) → i < n → f i ≢ c)
found_below zero f c = inr (λ i h. absurd (omega arith))
found_below (suc n) f c = by_eq (f n) c
    (λ e. inl (n, omega arith, e))
    (λ ne. elim (found_below n f c) [
      | inl found ↦ (let h = found.1 in inl (found.0, omega (arith, h), found.2))
      | inr none ↦ inr (λ i h. by_eq i n (λ e. subst (λ j. f j ≢ c) (sym e) ne) (λ differ. none i (omega arith)))
    ])

-- a column is basic or not
pub basic_or_not : (program : LinearProgram) (t : SimplexTableau) (c : ℕ) → IsBasic program t c ⊎ ¬ IsBasic program t c
basic_or_not program t c = elim (found_below program.rows (basic_column t) c) [
  | inl found ↦ inl found
  | inr none ↦ inr (λ found. none found.0 found.1 found.2)
]

-- ---- sums

-- a sum with two terms
sum_two : (n c d : ℕ) (f : ℕ → ℤ) → c < n → d < n → c ≢ d → ((k : ℕ) → k < n → k ≢ c → k ≢ d → f k ≡ pos 0) → sum_below n f ≡ f c +ℤ f d
sum_two zero c d f hc hd differ none = absurd (omega arith)
sum_two (suc n) c d f hc hd differ none = by_eq c n
    (λ e. ap (λ x. x +ℤ f n) (sum_one n d f (omega arith) (λ k h ne. none k (omega arith) (omega arith) ne)) ∙ swapped (f d) (f n) ∙ ap (λ x. f x +ℤ f d) (sym e))
    (λ not_c. by_eq d n
    (λ e. ap (λ x. x +ℤ f n) (sum_one n c f (omega arith) (λ k h ne. none k (omega arith) ne (omega arith))) ∙ ap (λ x. f c +ℤ f x) (sym e))
    (λ not_d. ap₂ (λ x y. x +ℤ y) (sum_two n c d f (omega arith) (omega arith) differ (λ k h ne ne'. none k (omega arith) ne ne')) (none n (omega arith) (λ e. not_c (sym e)) (λ e. not_d (sym e))) ∙ and_zero (f c +ℤ f d)))
  where
    swapped : (x y : ℤ) → x +ℤ y ≡ y +ℤ x
    swapped x y = omega (arith, linear)

    and_zero : (x : ℤ) → x +ℤ pos 0 ≡ x
    and_zero x = omega (arith, linear)

-- a sum above 0 has a term above 0
pub positive_term : (n : ℕ) (f : ℕ → ℤ) → pos 0 <ℤ sum_below n f → (k : ℕ) × (k < n) × (pos 0 <ℤ f k)
positive_term zero f h = absurd (omega (arith, linear, h))
positive_term (suc n) f h = by_lt_z (pos 0) (f n)
    (λ above. (n, omega arith, above))
    (λ below. let found = positive_term n f (omega (arith, linear, h, below)) in let inside = found.1 in (found.0, omega (arith, inside), found.2))

-- a row's sum at a point, the right side with it
abbrev pub total : LinearProgram → SimplexTableau → ℕ → (ℕ → ℤ) → ℤ
total program t row y = sum_below (suc (N program)) (λ k. entry_at t row k *ℤ y k)

-- every constraint row's sum is 0
abbrev pub Solves : LinearProgram → SimplexTableau → (ℕ → ℤ) → Type 0
Solves program t y = (i : ℕ) → i < program.rows → total program t i y ≡ pos 0

-- ---- the direction

-- a row's own entry in its basic column
abbrev own : SimplexTableau → ℕ → ℤ
own t i = entry_at t i (basic_column t i)

-- the product of all these: so far the column moves up
abbrev pub size : LinearProgram → SimplexTableau → ℤ
size program t = product_below program.rows (own t)

abbrev share : LinearProgram → SimplexTableau → ℕ → ℕ → ℤ
share program t s i = cofactor program.rows (own t) i *ℤ entry_at t i s

-- a column's part of the direction along `s`
pub along : LinearProgram → SimplexTableau → ℕ → ℕ → ℤ
along program t s k = cond (k == s) (size program t) (neg_ℤ (sum_below program.rows (λ i. cond (basic_column t i == k) (share program t s i) (pos 0))))

pub size_positive : (program : LinearProgram) (t : SimplexTableau) → Known program t → pos 0 <ℤ size program t
size_positive program t known = product_positive program.rows (own t) (λ i h. known.own_positive i h)

pub along_itself : (program : LinearProgram) (t : SimplexTableau) (s : ℕ) → along program t s s ≡ size program t
unfolding along
along_itself program t s = cond_same (size program t) _ s s refl

pub along_basic : (program : LinearProgram) (t : SimplexTableau) (s : ℕ) → Known program t → ¬ IsBasic program t s → (i : ℕ) → i < program.rows → along program t s (basic_column t i) ≡ neg_ℤ (cofactor program.rows (own t) i *ℤ entry_at t i s)
unfolding along
along_basic program t s known not_basic i h =
    let c = basic_column t i in
    cond_other (size program t) _ c s (λ e. not_basic (i, h, e))
    ∙ ap neg_ℤ (sum_one program.rows i (λ j. cond (basic_column t j == c) (share program t s j) (pos 0)) h (λ j hj ne. cond_other (share program t s j) (pos 0) (basic_column t j) c (λ e. ne (row_is_one program t known j i hj h e)))
    ∙ cond_same (share program t s i) (pos 0) c c refl)

pub along_other : (program : LinearProgram) (t : SimplexTableau) (s k : ℕ) → k ≢ s → ¬ IsBasic program t k → along program t s k ≡ pos 0
unfolding along
along_other program t s k differ not_basic =
    cond_other (size program t) _ k s differ
    ∙ ap neg_ℤ (sum_none program.rows (λ j. cond (basic_column t j == k) (share program t s j) (pos 0)) (λ j hj. cond_other (share program t s j) (pos 0) (basic_column t j) k (λ e. not_basic (j, hj, e))))

meets : (o c e k : ℤ) → o *ℤ c ≡ k → o *ℤ neg_ℤ (c *ℤ e) +ℤ e *ℤ k ≡ pos 0
meets o c e k h = ap (λ x. o *ℤ neg_ℤ (c *ℤ e) +ℤ e *ℤ x) (sym h) ∙ (let z : o *ℤ neg_ℤ (c *ℤ e) +ℤ e *ℤ (o *ℤ c) ≡ pos 0 = rw (dif_is o, dif_is c, dif_is e) (simp difs (dif_same _ _ _ _ (omega arith))) in z)

-- the direction keeps every constraint row's sum
pub along_solves : (program : LinearProgram) (t : SimplexTableau) (s : ℕ) → Known program t → s ≤ N program → ¬ IsBasic program t s → Solves program t (along program t s)
along_solves program t s known within not_basic i h =
    let y = along program t s in
    let c = basic_column t i in
    let inside = known.within i h in
    sum_two (suc (N program)) c s (λ k. entry_at t i k *ℤ y k) (omega (arith, inside)) (omega (arith, within)) (λ e. not_basic (i, h, e))
    (λ k hk not_c not_s. elim (basic_or_not program t k) [
      | inl found ↦
          (let z : entry_at t i k ≡ pos 0 = subst (λ j. entry_at t i j ≡ pos 0) found.2 (known.zero_elsewhere found.0 i found.1 (omega arith) (λ e. not_c (sym found.2 ∙ ap (basic_column t) (sym e)))) in
          ap (λ x. x *ℤ y k) z ∙ zero_times (y k))
      | inr none ↦ ap (λ x. entry_at t i k *ℤ x) (along_other program t s k not_s none) ∙ times_zero (entry_at t i k)
    ])
    ∙ ap₂ (λ x z. entry_at t i c *ℤ x +ℤ entry_at t i s *ℤ z) (along_basic program t s known not_basic i h) (along_itself program t s)
    ∙ meets (own t i) (cofactor program.rows (own t) i) (entry_at t i s) (size program t) (cofactor_is program.rows i (own t) h)

-- the objective row of a tableau in which the same columns are basic, or more, sees in it the one column alone
pub objective_along : (program : LinearProgram) (t u : SimplexTableau) (s : ℕ) → Known program u → s ≤ N program → ((k : ℕ) → IsBasic program t k → IsBasic program u k) → total program u program.rows (along program t s) ≡ entry_at u program.rows s *ℤ size program t
objective_along program t u s known within basic =
    let y = along program t s in
    sum_one (suc (N program)) s (λ k. entry_at u program.rows k *ℤ y k) (omega (arith, within))
    (λ k hk differ. elim (basic_or_not program t k) [
      | inl found ↦
          (let there = basic k found in
          let h = there.1 in
          let z : entry_at u program.rows k ≡ pos 0 = subst (λ j. entry_at u program.rows j ≡ pos 0) there.2 (known.zero_elsewhere there.0 program.rows there.1 (omega arith) (omega (arith, h))) in
          ap (λ x. x *ℤ y k) z ∙ zero_times (y k))
      | inr none ↦ ap (λ x. entry_at u program.rows k *ℤ x) (along_other program t s k differ none) ∙ times_zero (entry_at u program.rows k)
    ])
    ∙ ap (λ x. entry_at u program.rows s *ℤ x) (along_itself program t s)

-- a basic column that moves down has a positive entry in the column
pub along_falls : (program : LinearProgram) (t : SimplexTableau) (s i : ℕ) → Known program t → ¬ IsBasic program t s → i < program.rows → along program t s (basic_column t i) <ℤ pos 0 → pos 0 <ℤ entry_at t i s
along_falls program t s i known not_basic h falls =
    let c = cofactor_positive program.rows i (own t) (λ j hj. known.own_positive j hj) in
    let e = along_basic program t s known not_basic i h in
    by_lt_z (pos 0) (entry_at t i s) (λ x. x) (λ below.
    let m = mul_not_positive (cofactor program.rows (own t) i) (entry_at t i s) (omega (arith, linear, c)) below in
    absurd (omega (arith, linear, falls, same_out _ _ e, m)))

-- and one with a positive entry there moves down
pub along_drops : (program : LinearProgram) (t : SimplexTableau) (s i : ℕ) → Known program t → ¬ IsBasic program t s → i < program.rows → pos 0 <ℤ entry_at t i s → along program t s (basic_column t i) <ℤ pos 0
along_drops program t s i known not_basic h positive =
    let c = cofactor_positive program.rows i (own t) (λ j hj. known.own_positive j hj) in
    let e = along_basic program t s known not_basic i h in
    let m = mul_pos (cofactor program.rows (own t) i) (entry_at t i s) c positive in
    omega (arith, linear, same_out _ _ e, m)
