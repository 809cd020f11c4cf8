-- What each pivot of a run keeps: the rows combine the rows as built by their slack entries, and a point that solves the rows solves the rows as built.
use Rattle.std.proofs.Common.{◌≡◌, ◌≢◌, ℕ, zero, suc, ◌+◌, ◌<◌, length, sym, ap, ap₂, ◌∙◌, subst, arith}
use lib.IntN.{ℤ, pos, ◌+ℤ◌, ◌-ℤ◌, ◌*ℤ◌}
use lib.Signed.{◌<ℤ◌}
use borrow.Author.Differences.{same_out}
use Rattle.row_definitions.specs.Rows.{entry}
use Rattle.pivot_definitions.specs.Programs.{LinearProgram, IsProgram, IsCapped, unit_row}
use Rattle.pivot_definitions.specs.Tableaus.{SimplexTableau, entry_at, objective, plain_pivot, built, built_row, built_objective}
use Rattle.pivot_definitions.specs.Runs.{RunsTo}
use Rattle.pivot_definitions.specs.Duality.{sum_below}
use Rattle.pivot_definitions.proofs.Ring.{by_eq, dif_is, difs, dif_same, linear, mul_pos, same_from_product, zero_times, one_times, assoc}
use Rattle.pivot_definitions.proofs.Pivots.{PivotFacts, pivot_facts}
use Rattle.pivot_definitions.proofs.Built.{length-range, built_slack, unit_here}
use Rattle.pivot_definitions.proofs.Start.{row_built, objective_built, unit_elsewhere, unit_facts}
use Rattle.pivot_definitions.proofs.Reached.{Reached, reached}
use Rattle.pivot_definitions.proofs.Sums.{sum_same, sum_linear, sum_one, sum_none}

-- a row as built, and the objective row as built
abbrev pub B : LinearProgram → ℕ → ℕ → ℤ
B program j k = entry (built_row program j) k

abbrev pub U : LinearProgram → ℕ → ℤ
U program k = entry (built_objective program) k

-- so many times a point solves the constraint rows, with equality by the slack columns
abbrev pub Solves : LinearProgram → SimplexTableau → (ℕ → ℤ) → ℤ → Type 0
Solves program t z d = (i : ℕ) → i < program.rows → sum_below (program.columns + program.rows) (λ k. entry_at t i k *ℤ z k) ≡ d *ℤ entry_at t i (program.columns + program.rows)

-- what is above the right side in the objective row at a point
abbrev pub surplus : LinearProgram → (ℕ → ℤ) → (ℕ → ℤ) → ℤ → ℤ
surplus program o z d = sum_below (program.columns + program.rows) (λ k. o k *ℤ z k) -ℤ d *ℤ o (program.columns + program.rows)

pub record Combined (program : LinearProgram) (t : SimplexTableau) : Type 0 where
  pub scale : ℤ
  pub positive : pos 0 <ℤ scale
  pub rows_are : (i k : ℕ) → i < program.rows → entry_at t i k ≡ sum_below program.rows (λ j. entry_at t i (program.columns + j) *ℤ B program j k)
  pub objective_is : (k : ℕ) → objective t k ≡ scale *ℤ U program k +ℤ sum_below program.rows (λ j. objective t (program.columns + j) *ℤ B program j k)
  pub back : (z : ℕ → ℤ) (d : ℤ) → Solves program t z d → Solves program (built program) z d
  pub value : (z : ℕ → ℤ) (d : ℤ) → Solves program t z d → surplus program (objective t) z d ≡ scale *ℤ surplus program (U program) z d

one_and_none : (x : ℤ) → x ≡ pos 1 *ℤ x +ℤ pos 0
one_and_none x = rw (dif_is x) (simp difs (dif_same _ _ _ _ (omega arith)))

combined_built : (program : LinearProgram) → IsProgram program → Combined program (built program)
combined_built program is =
    let some = is.some_column in
    let last : (k : ℕ) → objective (built program) k ≡ U program k = λ k. ap (λ n. entry_at (built program) n k) (length-range program.columns program.rows) ∙ ap (λ r. entry r k) (objective_built program) in
    record {
      scale = pos 1;
      positive = omega (arith, linear);
      rows_are = λ i k h.
          (let own : (j : ℕ) → j < program.rows → entry_at (built program) i (program.columns + j) ≡ entry (unit_row program.rows i) j = λ j hj. ap (λ r. entry r (program.columns + j)) (row_built program i h) ∙ built_slack program is i j h hj in
          ap (λ r. entry r k) (row_built program i h)
          ∙ sym (sum_one program.rows i (λ j. entry_at (built program) i (program.columns + j) *ℤ B program j k) h (λ j hj differ. ap (λ x. x *ℤ B program j k) (own j hj ∙ unit_elsewhere program.rows i j differ) ∙ zero_times (B program j k))
          ∙ ap (λ x. x *ℤ B program i k) (own i h ∙ unit_here program.rows i) ∙ one_times (B program i k)));
      objective_is = λ k. last k ∙ one_and_none (U program k) ∙ ap (λ x. pos 1 *ℤ U program k +ℤ x) (sym (sum_none program.rows (λ j. objective (built program) (program.columns + j) *ℤ B program j k)
          (λ j hj. ap (λ x. x *ℤ B program j k) (last (program.columns + j) ∙ (unit_facts program).elsewhere (program.columns + j) (omega arith)) ∙ zero_times (B program j k))));
      back = λ z d solves. solves;
      value = λ z d solves. ap₂ (λ x y. x -ℤ d *ℤ y) (sum_same (program.columns + program.rows) (λ k. objective (built program) k *ℤ z k) (λ k. U program k *ℤ z k) (λ k h. ap (λ x. x *ℤ z k) (last k))) (last (program.columns + program.rows)) ∙ sym (one_times (surplus program (U program) z d));
    }

split_scale : (p o s u x y : ℤ) → p *ℤ (s *ℤ u +ℤ x) -ℤ o *ℤ y ≡ (p *ℤ s) *ℤ u +ℤ (p *ℤ x -ℤ o *ℤ y)
split_scale p o s u x y = rw (dif_is p, dif_is o, dif_is s, dif_is u, dif_is x, dif_is y) (simp difs (dif_same _ _ _ _ (omega arith)))

apart_products : (p a d e x y : ℤ) → d *ℤ (p *ℤ e -ℤ a *ℤ x) ≡ p *ℤ (d *ℤ e) -ℤ a *ℤ (d *ℤ x)
apart_products p a d e x y = rw (dif_is p, dif_is a, dif_is d, dif_is e, dif_is x) (simp difs (dif_same _ _ _ _ (omega arith)))

surplus_step : (p o d x e y f : ℤ) → (p *ℤ x -ℤ o *ℤ (d *ℤ y)) -ℤ d *ℤ (p *ℤ e -ℤ o *ℤ y) ≡ p *ℤ (x -ℤ d *ℤ e)
surplus_step p o d x e y f = rw (dif_is p, dif_is o, dif_is d, dif_is x, dif_is e, dif_is y) (simp difs (dif_same _ _ _ _ (omega arith)))

cancel_last : (a b c : ℤ) → a -ℤ c ≡ b -ℤ c → a ≡ b
cancel_last a b c e = let o = same_out _ _ e in omega (arith, linear, o)

combined_step : (program : LinearProgram) (t u : SimplexTableau) (p q : ℕ) → Reached program t → PivotFacts t u p q → p < program.rows → pos 0 <ℤ entry_at t p q → Combined program t → Combined program u
combined_step program t u p q held facts within positive combined =
    let n = program.columns + program.rows in
    let P = entry_at t p q in
    let count = held.count in
    let rows = held.feasible.shape.row_count in
    let other : (i k : ℕ) → i < program.rows → i ≢ p → entry_at u i k ≡ P *ℤ entry_at t i k -ℤ entry_at t i q *ℤ entry_at t p k = λ i k h ne. facts.other i k (omega (arith, rows, count)) ne in
    let last : (k : ℕ) → objective u k ≡ P *ℤ objective t k -ℤ objective t q *ℤ entry_at t p k = λ k. ap (λ r. entry_at u r k) facts.count ∙ facts.other (length t.basis) k (omega (arith, rows)) (omega (arith, count)) in
    let back : (z : ℕ → ℤ) (d : ℤ) → Solves program u z d → Solves program t z d = λ z d solves i h.
    (let at_p : sum_below n (λ k. entry_at t p k *ℤ z k) ≡ d *ℤ entry_at t p n = sum_same n (λ k. entry_at t p k *ℤ z k) (λ k. entry_at u p k *ℤ z k) (λ k hk. ap (λ x. x *ℤ z k) (sym (facts.same k))) ∙ solves p within ∙ ap (λ x. d *ℤ x) (facts.same n) in
    by_eq i p
    (λ e. subst (λ r. sum_below n (λ k. entry_at t r k *ℤ z k) ≡ d *ℤ entry_at t r n) (sym e) at_p)
    (λ ne.
    let whole : P *ℤ sum_below n (λ k. entry_at t i k *ℤ z k) -ℤ entry_at t i q *ℤ (d *ℤ entry_at t p n) ≡ P *ℤ (d *ℤ entry_at t i n) -ℤ entry_at t i q *ℤ (d *ℤ entry_at t p n) =
    ap (λ x. P *ℤ sum_below n (λ k. entry_at t i k *ℤ z k) -ℤ entry_at t i q *ℤ x) (sym at_p)
    ∙ sym (sum_linear n P (entry_at t i q) (λ k. entry_at t i k) (λ k. entry_at t p k) z)
    ∙ sum_same n (λ k. (P *ℤ entry_at t i k -ℤ entry_at t i q *ℤ entry_at t p k) *ℤ z k) (λ k. entry_at u i k *ℤ z k) (λ k hk. ap (λ x. x *ℤ z k) (sym (other i k h ne)))
    ∙ solves i h ∙ ap (λ x. d *ℤ x) (other i n h ne) ∙ apart_products P (entry_at t i q) d (entry_at t i n) (entry_at t p n) P in
    same_from_product P (sum_below n (λ k. entry_at t i k *ℤ z k)) (d *ℤ entry_at t i n) positive (cancel_last (P *ℤ sum_below n (λ k. entry_at t i k *ℤ z k)) (P *ℤ (d *ℤ entry_at t i n)) (entry_at t i q *ℤ (d *ℤ entry_at t p n)) whole))) in
    record {
      scale = P *ℤ combined.scale;
      positive = mul_pos P combined.scale positive combined.positive;
      rows_are = λ i k h. by_eq i p
          (λ e. subst (λ r. entry_at u r k ≡ sum_below program.rows (λ j. entry_at u r (program.columns + j) *ℤ B program j k)) (sym e)
          (facts.same k ∙ combined.rows_are p k within ∙ sum_same program.rows (λ j. entry_at t p (program.columns + j) *ℤ B program j k) (λ j. entry_at u p (program.columns + j) *ℤ B program j k) (λ j hj. ap (λ x. x *ℤ B program j k) (sym (facts.same (program.columns + j))))))
          (λ ne. other i k h ne ∙ ap₂ (λ x y. P *ℤ x -ℤ entry_at t i q *ℤ y) (combined.rows_are i k h) (combined.rows_are p k within)
          ∙ sym (sum_linear program.rows P (entry_at t i q) (λ j. entry_at t i (program.columns + j)) (λ j. entry_at t p (program.columns + j)) (λ j. B program j k))
          ∙ sum_same program.rows (λ j. (P *ℤ entry_at t i (program.columns + j) -ℤ entry_at t i q *ℤ entry_at t p (program.columns + j)) *ℤ B program j k) (λ j. entry_at u i (program.columns + j) *ℤ B program j k) (λ j hj. ap (λ x. x *ℤ B program j k) (sym (other i (program.columns + j) h ne))));
      objective_is = λ k. last k ∙ ap₂ (λ x y. P *ℤ x -ℤ objective t q *ℤ y) (combined.objective_is k) (combined.rows_are p k within)
          ∙ split_scale P (objective t q) combined.scale (U program k) (sum_below program.rows (λ j. objective t (program.columns + j) *ℤ B program j k)) (sum_below program.rows (λ j. entry_at t p (program.columns + j) *ℤ B program j k))
          ∙ ap (λ x. (P *ℤ combined.scale) *ℤ U program k +ℤ x) (sym (sum_linear program.rows P (objective t q) (λ j. objective t (program.columns + j)) (λ j. entry_at t p (program.columns + j)) (λ j. B program j k))
          ∙ sum_same program.rows (λ j. (P *ℤ objective t (program.columns + j) -ℤ objective t q *ℤ entry_at t p (program.columns + j)) *ℤ B program j k) (λ j. objective u (program.columns + j) *ℤ B program j k) (λ j hj. ap (λ x. x *ℤ B program j k) (sym (last (program.columns + j)))));
      back = λ z d solves. combined.back z d (back z d solves);
      value = λ z d solves.
          (let before = back z d solves in
          ap₂ (λ x y. x -ℤ d *ℤ y)
          (sum_same n (λ k. objective u k *ℤ z k) (λ k. (P *ℤ objective t k -ℤ objective t q *ℤ entry_at t p k) *ℤ z k) (λ k hk. ap (λ x. x *ℤ z k) (last k)) ∙ sum_linear n P (objective t q) (λ k. objective t k) (λ k. entry_at t p k) z ∙ ap (λ x. P *ℤ sum_below n (λ k. objective t k *ℤ z k) -ℤ objective t q *ℤ x) (before p within))
          (last n)
          ∙ surplus_step P (objective t q) d (sum_below n (λ k. objective t k *ℤ z k)) (objective t n) (entry_at t p n) P
          ∙ ap (λ x. P *ℤ x) (combined.value z d before) ∙ assoc P combined.scale (surplus program (U program) z d));
    }

pub combined : (program : LinearProgram) → IsProgram program → IsCapped program → (n : ℕ) (t : SimplexTableau) → RunsTo (built program) n t → Combined program t
combined program is capped zero t run = subst (Combined program) (sym run) (combined_built program is)
combined program is capped (suc n) t run =
    let before = run.0 in
    let held = reached program is capped n before run.1 in
    let leaves = run.4.leaves.candidate in
    subst (Combined program) (sym run.6) (combined_step program before (plain_pivot before run.2 run.3) run.2 run.3 held (pivot_facts before held.feasible.shape run.2 run.3 leaves.within run.4.enters.within) (omega (arith, leaves.within, held.count)) leaves.positive (combined program is capped n before run.1))
