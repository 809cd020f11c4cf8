-- A pivot of a run keeps what holds of every tableau that a run reaches.
use Rattle.std.proofs.Common.{◌≡◌, ℕ, ◌+◌, ◌<◌, ◌⊎◌, inl, inr, length, sym, ap, ap₂, ◌∙◌, subst, arith}
use Rattle.std.proofs.lemmas.Int.{by_lt_z}
use lib.IntN.{ℤ, pos, ◌-ℤ◌, ◌*ℤ◌}
use lib.Signed.{◌<ℤ◌, ◌≤ℤ◌}
use Rattle.pivot_definitions.specs.Tableaus.{SimplexTableau, IsTableau, IsCanonical, entry_at, basic_column, column_count, right_side}
use Rattle.pivot_definitions.specs.Runs.{Leaves}
use Rattle.pivot_definitions.specs.Feasible.{HasNoNegativeRightSide}
use Rattle.pivot_definitions.proofs.Ring.{by_eq, dif_is, difs, dif_same, linear, mul_pos, mul_not_negative, mul_not_positive}
use borrow.Author.Differences.{same_out}
use Rattle.pivot_definitions.proofs.Pivots.{PivotFacts}

less_product_zero : (a b c : ℤ) → a *ℤ b -ℤ c *ℤ pos 0 ≡ a *ℤ b
less_product_zero a b c = rw (dif_is a, dif_is b, dif_is c) (simp difs (dif_same _ _ _ _ (omega arith)))

both_zero : (a c : ℤ) → a *ℤ pos 0 -ℤ c *ℤ pos 0 ≡ pos 0
both_zero a c = rw (dif_is a, dif_is c) (simp difs (dif_same _ _ _ _ (omega arith)))

made_zero : (a b : ℤ) → a *ℤ b -ℤ b *ℤ a ≡ pos 0
made_zero a b = rw (dif_is a, dif_is b) (simp difs (dif_same _ _ _ _ (omega arith)))

-- the basic columns after a pivot
pub canonical_step : (t u : SimplexTableau) (p q : ℕ) → IsTableau t → PivotFacts t u p q → p < length t.basis → pos 0 <ℤ entry_at t p q → IsCanonical t → IsCanonical u
canonical_step t u p q is facts within positive canonical =
    let rows : length t.rows ≡ length t.basis + 1 = is.row_count in
    let rows_after : length u.rows ≡ length u.basis + 1 = facts.shape.row_count in
    record {
      positive = λ i h. by_eq i p
          (λ e. subst (λ k. pos 0 <ℤ entry_at u k (basic_column u k)) (sym e) (subst (λ c. pos 0 <ℤ entry_at u p c) (sym facts.enters) (subst (λ z. pos 0 <ℤ z) (sym (facts.same q)) positive)))
          (λ ne. subst (λ c. pos 0 <ℤ entry_at u i c) (sym (facts.stays i ne))
          (subst (λ z. pos 0 <ℤ z) (sym (facts.other i (basic_column t i) (omega (arith, facts.count)) ne ∙ ap (λ z. entry_at t p q *ℤ entry_at t i (basic_column t i) -ℤ entry_at t i q *ℤ z) (canonical.zero_elsewhere i p (omega (arith, facts.count)) (omega arith) (λ e. ne (sym e))) ∙ less_product_zero (entry_at t p q) (entry_at t i (basic_column t i)) (entry_at t i q)))
          (mul_pos (entry_at t p q) (entry_at t i (basic_column t i)) positive (canonical.positive i (omega (arith, facts.count))))));
      zero_elsewhere = λ i j h k ne. by_eq i p
          (λ e. subst (λ n. entry_at u j (basic_column u n) ≡ pos 0) (sym e) (subst (λ c. entry_at u j c ≡ pos 0) (sym facts.enters)
          (facts.other j q (omega (arith, facts.count)) (λ f. ne (f ∙ sym e)) ∙ made_zero (entry_at t p q) (entry_at t j q))))
          (λ not_p. subst (λ c. entry_at u j c ≡ pos 0) (sym (facts.stays i not_p)) (by_eq j p
          (λ f. subst (λ n. entry_at u n (basic_column t i) ≡ pos 0) (sym f) (facts.same (basic_column t i) ∙ canonical.zero_elsewhere i p (omega (arith, facts.count)) (omega arith) (λ g. not_p (sym g))))
          (λ nf. facts.other j (basic_column t i) (omega (arith, facts.count)) nf
          ∙ ap₂ (λ y z. entry_at t p q *ℤ y -ℤ entry_at t j q *ℤ z) (canonical.zero_elsewhere i j (omega (arith, facts.count)) (omega (arith, facts.count)) ne) (canonical.zero_elsewhere i p (omega (arith, facts.count)) (omega arith) (λ g. not_p (sym g)))
          ∙ both_zero (entry_at t p q) (entry_at t j q))));
    }

swapped : (a b : ℤ) → a *ℤ b ≡ b *ℤ a
swapped a b = rw (dif_is a, dif_is b) (simp difs (dif_same _ _ _ _ (omega arith)))

ratio : (a b c r : ℤ) (Q : Type 0) → (((r *ℤ c) <ℤ (b *ℤ a)) ⊎ (((r *ℤ c) ≡ (b *ℤ a)) × Q)) → pos 0 ≤ℤ (a *ℤ b -ℤ c *ℤ r)
ratio a b c r Q h = rw (swapped a b, swapped c r) (elim h [ inl less ↦ omega (arith, linear) | inr same ↦ omega (arith, linear, same_out _ _ same.0) ])

sum_not_negative : (x c r : ℤ) → pos 0 ≤ℤ x → (r *ℤ c) ≤ℤ pos 0 → pos 0 ≤ℤ (x -ℤ c *ℤ r)
sum_not_negative x c r h k = rw (swapped c r) (omega (arith, linear))

-- the right sides after a pivot of the least ratio
pub right_side_step : (t u : SimplexTableau) (p q : ℕ) → IsTableau t → PivotFacts t u p q → Leaves t q p → HasNoNegativeRightSide t → HasNoNegativeRightSide u
right_side_step t u p q is facts leaves right i h =
    let w : column_count u ≡ column_count t = ap₂ (λ a b. a + b) facts.columns facts.count in
    let positive = leaves.candidate.positive in
    let within = leaves.candidate.within in
    let R : ℤ = right_side t p in
    subst (λ c. pos 0 ≤ℤ entry_at u i c) (sym w)
    (by_eq i p
    (λ e. subst (λ n. pos 0 ≤ℤ entry_at u n (column_count t)) (sym e) (subst (λ z. pos 0 ≤ℤ z) (sym (facts.same (column_count t))) (right p within)))
    (λ ne. subst (λ z. pos 0 ≤ℤ z) (sym (facts.other i (column_count t) (omega (arith, is.row_count, facts.count)) ne))
    (by_lt_z (pos 0) (entry_at t i q)
    (λ above. ratio (entry_at t p q) (right_side t i) (entry_at t i q) R _ (leaves.least i (record { within = omega (arith, facts.count); positive = above }) ne))
    (λ below. let x = mul_not_negative (entry_at t p q) (right_side t i) (omega (arith, linear)) (right i (omega (arith, facts.count))) in
    let y = mul_not_positive R (entry_at t i q) (right p within) below in
    sum_not_negative (entry_at t p q *ℤ right_side t i) (entry_at t i q) R x y))))
