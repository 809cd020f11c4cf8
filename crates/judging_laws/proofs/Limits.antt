-- Below level 1 of a program with limits the measure asks for more than stakes within the limits can win.
use Rattle.std.proofs.Common.{◌≡◌, ℕ, suc, ◌+◌, ◌*◌, ◌<◌, true, false, cond, List, [], ◌∷◌, length, sym, ap, ap₂, ◌∙◌, subst, arith}
use Rattle.std.specs.Prelude.{slice_index_or, int_lt}
use Rattle.std.specs.Int.{int_max}
use Rattle.std.proofs.lemmas.Int.{ints}
use lib.IntN.{ℤ, pos, ◌+ℤ◌, ◌-ℤ◌, ◌*ℤ◌, pos-*ℤ-pos}
use lib.Signed.{◌<ℤ◌, ◌≤ℤ◌}
use borrow.Author.Differences.{same_out}
use Rattle.row_definitions.specs.Rows.{entry}
use Rattle.pivot_definitions.specs.Programs.{LinearProgram, coefficient}
use Rattle.pivot_definitions.specs.Tableaus.{SimplexTableau, multiplier_of}
use Rattle.pivot_definitions.specs.Runs.{IsBest}
use Rattle.pivot_definitions.specs.Duality.{sum_below, column_sum, right_side_sum, IsReached}
use Rattle.pivot_definitions.proofs.Ring.{dif_is, difs, dif_same, linear, mul_not_negative, mul_below, times_zero, times_one, zero_times, below_from_product, positive_from_product}
use Rattle.pivot_definitions.proofs.Sums.{sum_same, sum_one, sum_none, sum_parts}
use Rattle.scan_types.specs.declared.offer.Offer.{Offer}
use Rattle.scan_types.specs.declared.outcome.Outcome.{Outcome}
use Rattle.settlement_definitions.specs.Gain.{gain}
use Rattle.settlement_definitions.specs.Classes.{classes_of}
use Rattle.finding_definitions.specs.Measure.{weighted_sum, mean}
use Rattle.finding_definitions.specs.Verdicts.{reach}
use Rattle.judging_definitions.specs.Columns.{offer_divisor, divided_gain}
use Rattle.judging_definitions.specs.JudgingPrograms.{limited_program}
use Rattle.judging_definitions.specs.Readings.{HasLevelOne, class_weights, weighted_classes}
use Rattle.judging_laws.proofs.ProgramRows.{limited_classes, limited_cap, limited_limits}
use Rattle.judging_laws.proofs.Weights.{sum_front, weight_divisor, weighted_is}
use Rattle.judging_laws.proofs.Levels.{BestFacts, best_facts, no_cap}
use Rattle.judging_laws.proofs.Means.{by_multipliers, class_part, level_part, gains_by_divisor}
use Rattle.judging_laws.proofs.Coherence.{any_outcome, level_below, rows_out, times_zero_out, divisor_stands}
use Rattle.judging_laws.proofs.Directions.{any_offer}

-- what stakes can reach, offer by offer
max_bound : (g m b : ℤ) → pos 0 ≤ℤ b → (g *ℤ m) ≤ℤ b → (g *ℤ int_max (pos 0) m) ≤ℤ b
max_bound g m b some bound =
    elim (int_lt m (pos 0)) as (λ t. (g *ℤ cond t (pos 0) m) ≤ℤ b) [
      | true ↦ (let z = times_zero g in omega (arith, linear, some, same_out _ _ z))
      | false ↦ bound
    ]

spread : (g l m r : ℤ) → g *ℤ (l *ℤ m +ℤ r) ≡ l *ℤ (g *ℤ m) +ℤ g *ℤ r
spread g l m r = rw (dif_is g, dif_is l, dif_is m, dif_is r) (simp difs (dif_same _ _ _ _ (omega arith)))

shuffle : (l d y : ℤ) → l *ℤ (d *ℤ y) ≡ y *ℤ (l *ℤ d)
shuffle l d y = rw (dif_is l, dif_is d, dif_is y) (simp difs (dif_same _ _ _ _ (omega arith)))

times_at_most : (d a b : ℤ) → pos 0 ≤ℤ d → a ≤ℤ b → (d *ℤ a) ≤ℤ (d *ℤ b)
times_at_most d a b h k =
    let x = mul_not_negative d (b -ℤ a) h (omega (arith, linear, k)) in
    let e : d *ℤ (b -ℤ a) ≡ d *ℤ b -ℤ d *ℤ a = rw (dif_is d, dif_is a, dif_is b) (simp difs (dif_same _ _ _ _ (omega arith))) in
    omega (arith, linear, x, same_out _ _ e)

reach_bound : (g : ℤ) (divisor : Offer → ℕ) (measure : List (Outcome × ℕ)) (offers : List Offer) (y : ℕ → ℤ) → ((i : ℕ) (o : Offer) → i < length offers → (pos 0 ≤ℤ y i) × ((g *ℤ mean measure (slice_index_or offers i o)) ≤ℤ (pos (divisor (slice_index_or offers i o)) *ℤ y i))) → (o : Offer) → (g *ℤ reach offers measure) ≤ℤ sum_below (length offers) (λ i. y i *ℤ pos ((slice_index_or offers i o).limit * divisor (slice_index_or offers i o)))
reach_bound g divisor measure [] y each o = let z = times_zero g in omega (arith, linear, same_out _ _ z)
reach_bound g divisor measure (offer ∷ offers) y each o =
    let rest = reach_bound g divisor measure offers (λ i. y (suc i)) (λ i o h. each (suc i) o (omega (arith, h))) o in
    let here = each 0 o (omega arith) in
    let b = pos (divisor offer) *ℤ y 0 in
    let some = mul_not_negative (pos (divisor offer)) (y 0) (omega (arith, ints)) here.0 in
    let most = times_at_most (pos offer.limit) (g *ℤ int_max (pos 0) (mean measure offer)) b (omega (arith, ints)) (max_bound g (mean measure offer) b some here.1) in
    let moved = shuffle (pos offer.limit) (pos (divisor offer)) (y 0) in
    let product = ap (λ z. y 0 *ℤ z) (pos-*ℤ-pos offer.limit (divisor offer)) in
    let front = sum_front (length offers) (λ i. y i *ℤ pos ((slice_index_or (offer ∷ offers) i o).limit * divisor (slice_index_or (offer ∷ offers) i o))) in
    let split = spread g (pos offer.limit) (int_max (pos 0) (mean measure offer)) (reach offers measure) in
    omega (arith, linear, rest, most, same_out _ _ moved, same_out _ _ product, same_out _ _ front, same_out _ _ split)

-- what the multipliers say below level 1 of a program with limits
record BelowLimits (classes : List Outcome) (offers : List Offer) (asked : Outcome → ℤ) (tableau : SimplexTableau) (facts : BestFacts (limited_program classes offers asked) tableau) : Type 0 where
  not_negative : (j : ℕ) → j < length classes → pos 0 ≤ℤ multiplier_of tableau j
  limit_multiplier : ℕ → ℤ
  limits : (i : ℕ) (o : Offer) → i < length offers → (pos 0 ≤ℤ limit_multiplier i) × (by_multipliers classes tableau (gain (slice_index_or offers i o)) any_outcome ≤ℤ (pos (offer_divisor classes (slice_index_or offers i o)) *ℤ limit_multiplier i))
  bound : sum_below (length offers) (λ i. limit_multiplier i *ℤ pos ((slice_index_or offers i any_offer).limit * offer_divisor classes (slice_index_or offers i any_offer))) <ℤ by_multipliers classes tableau asked any_outcome
  asked_stands : pos 0 <ℤ by_multipliers classes tableau asked any_outcome
  enough : facts.scale ≤ℤ by_multipliers classes tableau asked any_outcome
  level : facts.scale *ℤ facts.point 0 ≡ facts.times *ℤ sum_below (length offers) (λ i. limit_multiplier i *ℤ pos ((slice_index_or offers i any_offer).limit * offer_divisor classes (slice_index_or offers i any_offer)))

-- a sum over the rows of classes and limits
rows_split : (program : LinearProgram) (m n c : ℕ) (f : ℕ → ℤ) → program.rows ≡ suc (m + n) → f (m + n) ≡ pos 0 → column_sum program f c ≡ sum_below m (λ r. f r *ℤ coefficient program r c) +ℤ sum_below n (λ i. f (m + i) *ℤ coefficient program (m + i) c)
rows_split program m n c f rows none = rows_out program (m + n) c f rows none ∙ sum_parts m n (λ r. f r *ℤ coefficient program r c)

turned : (a b : ℤ) → a *ℤ b ≡ b *ℤ a
turned a b = rw (dif_is a, dif_is b) (simp difs (dif_same _ _ _ _ (omega arith)))

same_suc : (k i : ℕ) → suc i ≡ suc k → k ≡ i
same_suc k i e = omega (arith, e)

below_limits : (classes : List Outcome) (offers : List Offer) (asked : Outcome → ℤ) (tableau : SimplexTableau) → IsReached (limited_program classes offers asked) tableau → (facts : BestFacts (limited_program classes offers asked) tableau) → (HasLevelOne tableau → ⊥) → BelowLimits classes offers asked tableau facts
below_limits classes offers asked tableau reached facts below =
    let program = limited_program classes offers asked in
    let capped = limited_cap classes offers asked in
    let rows = limited_classes classes offers asked in
    let limits = limited_limits classes offers asked in
    let f = multiplier_of tableau in
    let m = length classes in
    let n = length offers in
    let less = level_below program tableau (m + n) reached facts capped below in
    let none = no_cap program tableau (m + n) facts capped less in
    let y : ℕ → ℤ = λ i. f (m + i) in
    let y_positive : (i : ℕ) → i < n → pos 0 ≤ℤ y i = λ i h. facts.bounds.not_negative (m + i) (omega (arith, h, capped.rows)) in
    let total = sum_below n (λ i. y i *ℤ pos ((slice_index_or offers i any_offer).limit * offer_divisor classes (slice_index_or offers i any_offer))) in
    let asked_sum = by_multipliers classes tableau asked any_outcome in
    let level_sum = rows_split program m n 0 f capped.rows none ∙ ap₂ (λ a b. a +ℤ b) (level_part classes offers asked program tableau any_outcome rows) (sum_none n (λ i. y i *ℤ coefficient program (m + i) 0) (λ i h. ap (λ z. y i *ℤ z) (limits.elsewhere i 0 h (omega arith)) ∙ times_zero (y i))) in
    let cover = facts.bounds.covers 0 facts.is.some_column in
    let one = times_one facts.scale in
    let enough : facts.scale ≤ℤ asked_sum = omega (arith, linear, cover, same_out _ _ one, same_out _ _ level_sum) in
    let right : right_side_sum program f ≡ total =
    ap (λ k. sum_below k (λ r. f r *ℤ entry program.right_sides r)) capped.rows
    ∙ ap₂ (λ a b. a +ℤ b)
    (sum_parts m n (λ r. f r *ℤ entry program.right_sides r)
    ∙ ap₂ (λ a b. a +ℤ b) (sum_none m (λ r. f r *ℤ entry program.right_sides r) (λ r h. ap (λ z. f r *ℤ z) (rows.right r h) ∙ times_zero (f r))) (sum_same n (λ i. y i *ℤ entry program.right_sides (m + i)) (λ i. y i *ℤ pos ((slice_index_or offers i any_offer).limit * offer_divisor classes (slice_index_or offers i any_offer))) (λ i h. ap (λ z. y i *ℤ z) (limits.right i any_offer h))))
    (ap (λ z. z *ℤ entry program.right_sides (m + n)) none ∙ zero_times (entry program.right_sides (m + n)))
    ∙ (let e : (pos 0 +ℤ total) +ℤ pos 0 ≡ total = omega (arith, linear) in e) in
    let level = facts.level ∙ ap (λ z. facts.times *ℤ z) right in
    let smaller = mul_below facts.scale (facts.point 0) facts.times facts.bounds.positive less in
    let larger = times_at_most facts.times facts.scale asked_sum (let p = facts.solution.positive in omega (arith, linear, p)) enough in
    let turn : facts.scale *ℤ facts.times ≡ facts.times *ℤ facts.scale = turned facts.scale facts.times in
    record {
      not_negative = λ j h. facts.bounds.not_negative j (omega (arith, h, rows.rows));
      limit_multiplier = y;
      limits = λ i o h.
          (let offer = slice_index_or offers i o in
          let covers = times_zero_out facts.scale _ (facts.bounds.covers (suc i) (omega (arith, h))) in
          let sum = rows_split program m n (suc i) f capped.rows none ∙ ap₂ (λ a b. a +ℤ b) (class_part classes offers asked program tableau i o any_outcome rows h)
          (sum_one n i (λ k. y k *ℤ coefficient program (m + k) (suc i)) h (λ k within differ. ap (λ z. y k *ℤ z) (limits.elsewhere k (suc i) within (λ e. differ (same_suc k i e))) ∙ times_zero (y k)) ∙ ap (λ z. y i *ℤ z) (limits.here i h) ∙ times_one (y i)) in
          let divided : by_multipliers classes tableau (divided_gain classes offer) any_outcome ≤ℤ y i = omega (arith, linear, covers, same_out _ _ sum) in
          let product = times_at_most (pos (offer_divisor classes offer)) (by_multipliers classes tableau (divided_gain classes offer) any_outcome) (y i) (omega (arith, ints)) divided in
          (y_positive i h, omega (arith, linear, product, same_out _ _ (gains_by_divisor classes tableau offer any_outcome))));
      bound = below_from_product facts.times total asked_sum facts.solution.positive (omega (arith, linear, same_out _ _ level, smaller, larger, same_out _ _ turn));
      asked_stands = (let p = facts.bounds.positive in omega (arith, linear, p, enough));
      enough = enough;
      level = level;
    }

-- below level 1 of a program with limits, stakes within the limits win less by the measure than it asks for
pub below_what_is_asked : (offers : List Offer) (asked : Outcome → ℤ) (tableau : SimplexTableau) → IsReached (limited_program (classes_of offers) offers asked) tableau → IsBest tableau → (HasLevelOne tableau → ⊥) → (reach offers (weighted_classes (classes_of offers) (class_weights (classes_of offers) tableau)) <ℤ weighted_sum asked (weighted_classes (classes_of offers) (class_weights (classes_of offers) tableau))) × (pos 0 <ℤ weighted_sum asked (weighted_classes (classes_of offers) (class_weights (classes_of offers) tableau)))
below_what_is_asked offers asked tableau reached best below =
    let classes = classes_of offers in
    let facts = below_limits classes offers asked tableau reached (best_facts (limited_program classes offers asked) tableau reached best) below in
    let measure = weighted_classes classes (class_weights classes tableau) in
    let g = weight_divisor classes tableau in
    let sum = weighted_is asked classes tableau any_outcome facts.not_negative in
    let positive = divisor_stands g (weighted_sum asked measure) _ sum facts.asked_stands in
    let most = reach_bound (pos g) (offer_divisor classes) measure offers facts.limit_multiplier
    (λ i o h. let l = facts.limits i o h in (l.0, (let gained = weighted_is (gain (slice_index_or offers i o)) classes tableau any_outcome facts.not_negative in omega (arith, linear, l.1, same_out _ _ gained)))) any_offer in (
      below_from_product (pos g) (reach offers measure) (weighted_sum asked measure) positive (omega (arith, linear, most, facts.bound, same_out _ _ sum)),
      positive_from_product (pos g) (weighted_sum asked measure) positive (subst (λ z. pos 0 <ℤ z) (sym sum) facts.asked_stands),
    )

-- below level 1 of a program with limits: what stakes can reach by the measure, and what it asks for, against the level
pub record LevelBounds (offers : List Offer) (asked : Outcome → ℤ) (tableau : SimplexTableau) (scale times level : ℤ) : Type 0 where
  pub divisor : ℕ
  pub divisor_positive : pos 0 <ℤ pos divisor
  pub total : ℤ
  pub most : (pos divisor *ℤ reach offers (weighted_classes (classes_of offers) (class_weights (classes_of offers) tableau))) ≤ℤ total
  pub enough : scale ≤ℤ (pos divisor *ℤ weighted_sum asked (weighted_classes (classes_of offers) (class_weights (classes_of offers) tableau)))
  pub ties : scale *ℤ level ≡ times *ℤ total
  pub asked_stands : pos 0 <ℤ weighted_sum asked (weighted_classes (classes_of offers) (class_weights (classes_of offers) tableau))

pub level_bounds : (offers : List Offer) (asked : Outcome → ℤ) (tableau : SimplexTableau) → IsReached (limited_program (classes_of offers) offers asked) tableau → (facts : BestFacts (limited_program (classes_of offers) offers asked) tableau) → (HasLevelOne tableau → ⊥) → LevelBounds offers asked tableau facts.scale facts.times (facts.point 0)
level_bounds offers asked tableau reached best below =
    let classes = classes_of offers in
    let facts = below_limits classes offers asked tableau reached best below in
    let measure = weighted_classes classes (class_weights classes tableau) in
    let g = weight_divisor classes tableau in
    let sum = weighted_is asked classes tableau any_outcome facts.not_negative in
    let positive = divisor_stands g (weighted_sum asked measure) _ sum facts.asked_stands in
    record {
      divisor = g;
      divisor_positive = positive;
      total = sum_below (length offers) (λ i. facts.limit_multiplier i *ℤ pos ((slice_index_or offers i any_offer).limit * offer_divisor classes (slice_index_or offers i any_offer)));
      most = reach_bound (pos g) (offer_divisor classes) measure offers facts.limit_multiplier
          (λ i o h. let l = facts.limits i o h in (l.0, (let gained = weighted_is (gain (slice_index_or offers i o)) classes tableau any_outcome facts.not_negative in omega (arith, linear, l.1, same_out _ _ gained)))) any_offer;
      enough = (let e = facts.enough in omega (arith, linear, e, same_out _ _ sum));
      ties = facts.level;
      asked_stands = positive_from_product (pos g) (weighted_sum asked measure) positive (subst (λ z. pos 0 <ℤ z) (sym sum) facts.asked_stands);
    }
