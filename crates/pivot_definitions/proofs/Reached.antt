-- What holds of every tableau that a run of a capped program reaches.
use Rattle.std.proofs.Common.{◌≡◌, ℕ, zero, suc, ◌+◌, ◌-◌, ◌<◌, ◌⊎◌, inl, inr, length, refl, sym, ap, ap₂, ◌∙◌, subst, arith}
use lib.IntN.{ℤ, pos, ◌+ℤ◌, ◌-ℤ◌, ◌*ℤ◌}
use lib.Signed.{◌<ℤ◌}
use borrow.Author.Differences.{same_out}
use Rattle.row_definitions.specs.Rows.{entry}
use Rattle.pivot_definitions.specs.Programs.{LinearProgram, IsProgram, IsCapped}
use Rattle.pivot_definitions.specs.Tableaus.{SimplexTableau, entry_at, basic_column, column_count, objective, plain_pivot, built, built_row, built_objective}
use Rattle.pivot_definitions.specs.Runs.{CanLeave, IsChoice, RunsTo}
use Rattle.pivot_definitions.specs.Feasible.{IsFeasible}
use Rattle.pivot_definitions.proofs.Ring.{by_eq, dif_is, difs, dif_same, linear}
use Rattle.pivot_definitions.proofs.Pivots.{PivotFacts, pivot_facts}
use Rattle.pivot_definitions.proofs.Feasible.{canonical_step, right_side_step}
use Rattle.pivot_definitions.proofs.Built.{length-range}
use Rattle.pivot_definitions.proofs.Start.{built_feasible, row_built, objective_built, basic_built, cap_facts, unit_facts}
use Rattle.pivot_definitions.proofs.Level.{Level, level_step, level_bounded, CapFacts}

one_times : (x y : ℤ) → pos 1 *ℤ x ≡ pos 1 *ℤ x +ℤ pos 0 *ℤ y
one_times x y = rw (dif_is x, dif_is y) (simp difs (dif_same _ _ _ _ (omega arith)))

first_cap : (P c r : ℤ) → P *ℤ c ≡ pos 1 *ℤ r +ℤ pos 1 *ℤ (P *ℤ c -ℤ pos 1 *ℤ r)
first_cap P c r = rw (dif_is P, dif_is c, dif_is r) (simp difs (dif_same _ _ _ _ (omega arith)))

first_objective : (P u r : ℤ) → pos 1 *ℤ (P *ℤ u -ℤ pos 1 *ℤ r) ≡ P *ℤ u -ℤ pos 1 *ℤ r
first_objective P u r = rw (dif_is P, dif_is u, dif_is r) (simp difs (dif_same _ _ _ _ (omega arith)))

-- the first entering column is column 0
first_enters : (program : LinearProgram) (q : ℕ) → pos 0 <ℤ objective (built program) q → q ≡ 0
first_enters program q positive = by_eq q 0 (λ e. e) (λ differ.
    let count = length-range program.columns program.rows in
    let e : objective (built program) q ≡ pos 0 = ap (λ n. entry_at (built program) n q) count ∙ ap (λ r. entry r q) (objective_built program) ∙ (unit_facts program).elsewhere q differ in
    absurd (omega (arith, linear, same_out _ _ e, positive)))

pub level_first : (program : LinearProgram) → IsProgram program → IsCapped program → (u : SimplexTableau) (p q : ℕ) → PivotFacts (built program) u p q → CanLeave (built program) q p → q ≡ 0 → Level u (entry (built_row program (program.rows - 1))) (entry (built_objective program)) (program.columns + (program.rows - 1))
level_first program is capped u p q facts leaves q_is =
    let count : length (built program).basis ≡ program.rows = length-range program.columns program.rows in
    let feasible = built_feasible program is in
    let some_row = is.some_row in
    let row : p < program.rows = omega (arith, count, leaves.within) in
    let last : program.rows - 1 < program.rows = omega arith in
    let t = built program in
    let P = entry_at t p q in
    let cap = entry (built_row program (program.rows - 1)) in
    let unit = entry (built_objective program) in
    let rows = feasible.shape.row_count in
    let at : (k : ℕ) → objective t k ≡ unit k = λ k. ap (λ n. entry_at t n k) count ∙ ap (λ r. entry r k) (objective_built program) in
    let one : objective t q ≡ pos 1 = at q ∙ ap unit q_is in
    let o : (k : ℕ) → objective u k ≡ P *ℤ unit k -ℤ pos 1 *ℤ entry_at u p k = λ k.
    ap (λ n. entry_at u n k) facts.count ∙ facts.other (length t.basis) k (omega (arith, rows)) (omega (arith, leaves.within)) ∙ ap₂ (λ y z. P *ℤ y -ℤ z *ℤ entry_at t p k) (at k) one ∙ ap (λ z. P *ℤ unit k -ℤ pos 1 *ℤ z) (sym (facts.same k)) in
    let objective_is : (k : ℕ) → pos 1 *ℤ objective u k ≡ P *ℤ unit k -ℤ pos 1 *ℤ entry_at u p k = λ k. ap (λ z. pos 1 *ℤ z) (o k) ∙ first_objective P (unit k) (entry_at u p k) in
    let one_positive : pos 0 <ℤ pos 1 = omega (arith, linear) in
    let basic : basic_column u p ≡ 0 = facts.enters ∙ q_is in
    by_eq (program.rows - 1) p
    (λ same. record {
      level_row = p;
      other_row = p;
      within = omega (arith, leaves.within, facts.count);
      basic = basic;
      a = pos 1;
      b = pos 0;
      d = pos 1;
      positive_a = one_positive;
      not_negative_b = omega (arith, linear);
      positive_d = one_positive;
      cap_is = λ k. ap (λ z. pos 1 *ℤ z) (ap (λ r. entry r k) (sym (row_built program (program.rows - 1) last)) ∙ ap (λ n. entry_at t n k) same ∙ sym (facts.same k)) ∙ one_times (entry_at u p k) (entry_at u p k);
      other = inl refl;
      c = pos 1;
      e = pos 1;
      f = P;
      positive_c = one_positive;
      positive_e = one_positive;
      objective_is = objective_is;
    })
    (λ differ.
    let cap_row : (k : ℕ) → entry_at t (program.rows - 1) k ≡ cap k = λ k. ap (λ r. entry r k) (row_built program (program.rows - 1) last) in
    let cap_q : entry_at t (program.rows - 1) q ≡ pos 1 = cap_row q ∙ ap cap q_is ∙ (cap_facts program is capped).at_level in
    let r1 : (k : ℕ) → entry_at u (program.rows - 1) k ≡ P *ℤ cap k -ℤ pos 1 *ℤ entry_at u p k = λ k.
    facts.other (program.rows - 1) k (omega (arith, rows, count)) differ ∙ ap₂ (λ y z. P *ℤ y -ℤ z *ℤ entry_at t p k) (cap_row k) cap_q ∙ ap (λ z. P *ℤ cap k -ℤ pos 1 *ℤ z) (sym (facts.same k)) in
    record {
      level_row = p;
      other_row = program.rows - 1;
      within = omega (arith, leaves.within, facts.count);
      basic = basic;
      a = pos 1;
      b = pos 1;
      d = P;
      positive_a = one_positive;
      not_negative_b = omega (arith, linear);
      positive_d = leaves.positive;
      cap_is = λ k. first_cap P (cap k) (entry_at u p k) ∙ ap (λ z. pos 1 *ℤ entry_at u p k +ℤ pos 1 *ℤ z) (sym (r1 k));
      other = inr (omega (arith, count, facts.count), facts.stays (program.rows - 1) differ ∙ basic_built program (program.rows - 1) last);
      c = pos 1;
      e = pos 1;
      f = P;
      positive_c = one_positive;
      positive_e = one_positive;
      objective_is = objective_is;
    })

pub record Reached (program : LinearProgram) (t : SimplexTableau) : Type 0 where
  pub feasible : IsFeasible t
  pub columns : t.columns ≡ program.columns
  pub count : length t.basis ≡ program.rows
  pub phase : (t ≡ built program) ⊎ Level t (entry (built_row program (program.rows - 1))) (entry (built_objective program)) (program.columns + (program.rows - 1))

pub reached_built : (program : LinearProgram) → IsProgram program → Reached program (built program)
reached_built program is = record { feasible = built_feasible program is; columns = refl; count = length-range program.columns program.rows; phase = inl refl }

pub reached_step : (program : LinearProgram) → IsProgram program → IsCapped program → (t : SimplexTableau) (p q : ℕ) → Reached program t → IsChoice t p q → Reached program (plain_pivot t p q)
reached_step program is capped t p q reached choice =
    let shape = reached.feasible.shape in
    let positive = choice.leaves.candidate.positive in
    let within = choice.leaves.candidate.within in
    let facts = pivot_facts t shape p q within choice.enters.within in
    let same_columns : program.columns + program.rows ≡ column_count t = sym (ap₂ (λ a b. a + b) reached.columns reached.count) in
    record {
      feasible = record {
        shape = facts.shape;
        canonical = canonical_step t (plain_pivot t p q) p q shape facts within positive reached.feasible.canonical;
        right_sides = right_side_step t (plain_pivot t p q) p q shape facts choice.leaves reached.feasible.right_sides;
      };
      columns = reached.columns;
      count = facts.count ∙ reached.count;
      phase = inr (elim reached.phase [
        | inl start ↦
            (let R : SimplexTableau → Type 0 = λ s. PivotFacts s (plain_pivot t p q) p q × CanLeave s q p × (pos 0 <ℤ objective s q) in
            let moved = subst R start (facts, choice.leaves.candidate, choice.enters.positive) in
            level_first program is capped (plain_pivot t p q) p q moved.0 moved.1 (first_enters program q moved.2))
        | inr level ↦ level_step t (plain_pivot t p q) _ _ _ p q shape reached.feasible.canonical facts (subst (CapFacts (entry (built_row program (program.rows - 1))) (program.columns + (program.rows - 1))) same_columns (cap_facts program is capped)) (unit_facts program) choice.enters.within choice.enters.positive choice.leaves.candidate level
      ]);
    }

-- a run reaches such tableaus alone
pub reached : (program : LinearProgram) → IsProgram program → IsCapped program → (n : ℕ) (t : SimplexTableau) → RunsTo (built program) n t → Reached program t
reached program is capped zero t run = subst (Reached program) (sym run) (reached_built program is)
reached program is capped (suc n) t run =
    let before = run.0 in
    let held = reached program is capped n before run.1 in
    subst (Reached program) (sym run.6) (reached_step program is capped before run.2 run.3 held run.4)

-- where a column can enter, a row can leave
pub bounded : (program : LinearProgram) → IsProgram program → IsCapped program → (t : SimplexTableau) (q : ℕ) → Reached program t → q < column_count t → pos 0 <ℤ objective t q → (row : ℕ) × CanLeave t q row
bounded program is capped t q held within positive =
    let same_columns : program.columns + program.rows ≡ column_count t = sym (ap₂ (λ a b. a + b) held.columns held.count) in
    elim held.phase [
      | inl start ↦
          (let some_row = is.some_row in
          let last : program.rows - 1 < program.rows = omega arith in
          let q_is : q ≡ 0 = first_enters program q (subst (λ s. pos 0 <ℤ objective s q) start positive) in
          let e : entry_at t (program.rows - 1) q ≡ pos 1 = ap₂ (λ s k. entry_at s (program.rows - 1) k) start q_is ∙ ap (λ r. entry r 0) (row_built program (program.rows - 1) last) ∙ (cap_facts program is capped).at_level in
          (program.rows - 1, record { within = omega (arith, held.count); positive = omega (arith, linear, same_out _ _ e) }))
      | inr level ↦ level_bounded t _ _ _ q held.feasible.shape held.feasible.canonical (subst (CapFacts (entry (built_row program (program.rows - 1))) (program.columns + (program.rows - 1))) same_columns (cap_facts program is capped)) (unit_facts program) within positive level
    ]
