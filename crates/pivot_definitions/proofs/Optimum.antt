-- The laws of duality for the kept form of a tableau that a run reaches.
use Rattle.std.proofs.Common.{◌≡◌, ℕ, zero, suc, ◌+◌, ◌<◌, length, refl, sym, ap, ap₂, ◌∙◌, subst, arith}
use lib.IntN.{ℤ, pos, ◌+ℤ◌, ◌-ℤ◌, ◌*ℤ◌, neg_ℤ}
use lib.Signed.{◌<ℤ◌}
use borrow.Author.Differences.{same_out}
use Rattle.row_definitions.specs.Rows.{entry}
use Rattle.pivot_definitions.specs.Programs.{LinearProgram, IsProgram, IsCapped, coefficient}
use Rattle.pivot_definitions.specs.Tableaus.{SimplexTableau, column_count, objective, multiplier_of, built, kept}
use Rattle.pivot_definitions.specs.Runs.{RunsTo}
use Rattle.pivot_definitions.specs.Duality.{sum_below, objective_of, CombinesToObjective, RowsCombine, BestMultipliersBound}
use Rattle.pivot_definitions.proofs.Ring.{dif_is, difs, dif_same, linear, positive_from_product, same_from_product, times_one, times_zero, assoc}
use Rattle.pivot_definitions.proofs.Start.{unit_facts, built_coefficient, built_right_side}
use Rattle.pivot_definitions.proofs.Reached.{reached}
use Rattle.pivot_definitions.proofs.Signs.{multiple}
use Rattle.pivot_definitions.proofs.Sums.{sum_same, sum_scaled, sum_negated}
use Rattle.pivot_definitions.proofs.Duality.{B, U, Combined, combined}

-- the slack entries of the objective row times the rows as built
abbrev pub S : LinearProgram → SimplexTableau → ℕ → ℤ
S program t k = sum_below program.rows (λ j. objective t (program.columns + j) *ℤ B program j k)

less_sum : (g o s : ℤ) (x u : ℤ) → g *ℤ o ≡ x *ℤ u +ℤ g *ℤ s → g *ℤ (o -ℤ s) ≡ x *ℤ u
less_sum g o s x u e =
    let a : g *ℤ (o -ℤ s) ≡ g *ℤ o -ℤ g *ℤ s = rw (dif_is g, dif_is o, dif_is s) (simp difs (dif_same _ _ _ _ (omega arith))) in
    let f = same_out _ _ e in
    a ∙ (let b : g *ℤ o -ℤ g *ℤ s ≡ x *ℤ u = omega (arith, linear, f) in b)

-- the objective row of the kept form, less its slack entries times the rows, is a multiple of the objective as built
core : (program : LinearProgram) (plain : SimplexTableau) → (all : Combined program plain) → (k : ℕ) → (multiple plain (length plain.basis)).factor *ℤ (objective (kept plain) k -ℤ S program (kept plain) k) ≡ all.scale *ℤ U program k
core program plain all k =
    let m = multiple plain (length plain.basis) in
    less_sum m.factor (objective (kept plain) k) (S program (kept plain) k) all.scale (U program k)
    (sym (m.entries k) ∙ all.objective_is k ∙ ap (λ x. all.scale *ℤ U program k +ℤ x)
    (sum_same program.rows (λ j. objective plain (program.columns + j) *ℤ B program j k) (λ j. (m.factor *ℤ objective (kept plain) (program.columns + j)) *ℤ B program j k) (λ j h. ap (λ x. x *ℤ B program j k) (m.entries (program.columns + j)))
    ∙ sum_scaled program.rows m.factor (λ j. objective (kept plain) (program.columns + j)) (λ j. B program j k)))

abbrev pub scale_of : LinearProgram → SimplexTableau → ℤ
scale_of program t = objective t 0 -ℤ S program t 0

pub scale_is : (program : LinearProgram) (plain : SimplexTableau) (all : Combined program plain) → (multiple plain (length plain.basis)).factor *ℤ scale_of program (kept plain) ≡ all.scale
scale_is program plain all = core program plain all 0 ∙ times_one all.scale

unit_is : (program : LinearProgram) (k : ℕ) → U program k ≡ objective_of k
unit_is program zero = refl
unit_is program (suc k) = (unit_facts program).elsewhere (suc k) (omega arith)

-- .. so it is the scale times the objective
pub at_column : (program : LinearProgram) (plain : SimplexTableau) → Combined program plain → (k : ℕ) → objective (kept plain) k -ℤ S program (kept plain) k ≡ scale_of program (kept plain) *ℤ objective_of k
at_column program plain all k =
    let m = multiple plain (length plain.basis) in
    same_from_product m.factor (objective (kept plain) k -ℤ S program (kept plain) k) (scale_of program (kept plain) *ℤ objective_of k) m.positive
    (core program plain all k ∙ ap₂ (λ x y. x *ℤ y) (sym (scale_is program plain all)) (unit_is program k) ∙ sym (assoc m.factor (scale_of program (kept plain)) (objective_of k)))

scale_positive : (program : LinearProgram) (plain : SimplexTableau) → Combined program plain → pos 0 <ℤ scale_of program (kept plain)
scale_positive program plain all = let m = multiple plain (length plain.basis) in positive_from_product m.factor (scale_of program (kept plain)) m.positive (subst (λ z. pos 0 <ℤ z) (sym (scale_is program plain all)) all.positive)

-- a sum by the multipliers is the negative of the slack entries' sum
pub multiplied : (program : LinearProgram) (t : SimplexTableau) (k : ℕ) (f : ℕ → ℤ) → t.columns ≡ program.columns → ((j : ℕ) → j < program.rows → f j ≡ B program j k) → sum_below program.rows (λ j. multiplier_of t j *ℤ f j) ≡ neg_ℤ (S program t k)
multiplied program t k f columns each =
    sum_same program.rows (λ j. multiplier_of t j *ℤ f j) (λ j. neg_ℤ (objective t (program.columns + j)) *ℤ B program j k) (λ j h. ap₂ (λ x y. x *ℤ y) (ap (λ c. neg_ℤ (objective t (c + j))) columns) (each j h))
    ∙ sum_negated program.rows (λ j. objective t (program.columns + j)) (λ j. B program j k)

pub add_negative : (o s : ℤ) → o +ℤ neg_ℤ s ≡ o -ℤ s
add_negative o s = rw (dif_is o, dif_is s) (simp difs (dif_same _ _ _ _ (omega arith)))

rows_combine_kept : (program : LinearProgram) → IsProgram program → IsCapped program → (pivots : ℕ) (plain : SimplexTableau) → RunsTo (built program) pivots plain → (scale : ℤ) × CombinesToObjective program (kept plain) scale
rows_combine_kept program is capped pivots plain run =
    let held = reached program is capped pivots plain run in
    let all = combined program is capped pivots plain run in
    let some = is.some_column in
    let wide : column_count plain ≡ program.columns + program.rows = ap₂ (λ a b. a + b) held.columns held.count in (
      scale_of program (kept plain),
      record {
        positive = scale_positive program plain all;
        columns = λ c h. ap (λ x. objective (kept plain) c +ℤ x) (multiplied program (kept plain) c (λ j. coefficient program j c) held.columns (λ j hj. sym (built_coefficient program is j c hj h))) ∙ add_negative (objective (kept plain) c) (S program (kept plain) c) ∙ at_column program plain all c;
        right_sides = ap₂ (λ x y. x +ℤ y) (ap (objective (kept plain)) wide) (multiplied program (kept plain) (program.columns + program.rows) (entry program.right_sides) held.columns (λ j hj. sym (built_right_side program is j hj)))
            ∙ add_negative (objective (kept plain) (program.columns + program.rows)) (S program (kept plain) (program.columns + program.rows)) ∙ at_column program plain all (program.columns + program.rows)
            ∙ ap (λ x. scale_of program (kept plain) *ℤ x) (sym (unit_is program (program.columns + program.rows)) ∙ (unit_facts program).elsewhere (program.columns + program.rows) (omega arith)) ∙ times_zero (scale_of program (kept plain));
      },
    )

pub rows_combine : RowsCombine
rows_combine program tableau (is, capped, pivots, plain, run, kept_is) =
    let found = rows_combine_kept program is capped pivots plain run in
    (found.0, subst (λ t. CombinesToObjective program t found.0) (sym kept_is) found.1)

pub best_multipliers_bound : BestMultipliersBound
best_multipliers_bound program tableau scale (is, capped, pivots, plain, run, kept_is) combines best =
    let held = reached program is capped pivots plain run in
    let columns : tableau.columns ≡ program.columns = ap (λ t. t.columns) kept_is ∙ held.columns in
    let count : length tableau.basis ≡ program.rows = ap (λ t. length t.basis) kept_is ∙ held.count in
    record {
      positive = combines.positive;
      not_negative = λ row h. (let x = best (tableau.columns + row) (omega (arith, count)) in omega (arith, linear, x));
      covers = λ c h. (let x = best c (omega (arith, columns)) in let e = combines.columns c h in omega (arith, linear, same_out _ _ e, x));
    }
