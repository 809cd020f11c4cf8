use Rattle.std.proofs.Common.{List, [], ◌∷◌, rules, ◌≡◌, ◌∙◌, ℕ, ◌<◌, ◌≤◌, ◌++◌, length, filter, ap, ap₂, sym, subst, arith}
use Rattle.std.specs.Prelude.{unsigned_abs, slice_index, slice_index_or, zip}
use Rattle.std.specs.Int.{◌∣◌}
use Rattle.std.proofs.lemmas.List.{take_all}
use Rattle.std.proofs.lemmas.Slice.Zip.{length-zip}
use borrow.Author.Count.{below_more}
use Rattle.row_definitions.specs.Rows.{divided}
use Rattle.pivot_definitions.specs.Tableaus.{SimplexTableau, multiplier_of}
use Rattle.coherence_lp.specs.Ends.{IsProgramEnd}
use Rattle.scan_types.specs.declared.limits.TheConstants.{MOST_PART}
use Rattle.scan_types.specs.declared.outcome.Outcome.{Outcome}
use Rattle.scan_types.specs.declared.outcome.Outcome.TheVariants.{Full}
use Rattle.judging_definitions.specs.Readings.{class_weights, weighted_classes, FirstAbove, NoneAbove}
use Rattle.judging_laws.proofs.Weights.{weight_divisor}
use Rattle.coherence_lp.proofs.EndFacts.{class_rows_stand}
use Rattle.coherence_lp.proofs.ClassWeights.{length-weights, weight_at, divisor_divides, has_weight, weighted_more, none_above}
use Rattle.coherence_lp.proofs.measure.read_measure.Goals as goal

stands : (classes outcomes : List Outcome) (tableau : SimplexTableau) → IsProgramEnd classes tableau → outcomes ≡ classes → (length outcomes ≤ length tableau.basis) × (length outcomes ≤ 98)
stands classes outcomes tableau end is =
    let h = class_rows_stand classes tableau end in
    let e = ap (λ (xs : List Outcome). length xs) is in
    (omega (arith, h.0, e), omega (arith, h.1, e))

pub overflow_cast-outcomes : goal.overflow_cast-outcomes
overflow_cast-outcomes c = let few = (stands _ _ _ c.requires c.outcomes-outcomes.ensures).1 in search rules

pub weight_divisor-divisor-requires : goal.weight_divisor-divisor-requires
weight_divisor-divisor-requires c = (stands _ _ _ c.requires c.outcomes-outcomes.ensures).0

pub overflow_cast-j : goal.overflow_cast-j
overflow_cast-j c = let few = (stands _ _ _ c.requires c.outcomes-outcomes.ensures).1 in search rules

pub weight_of-weight-requires-clause-row : goal.weight_of-weight-requires-clause-row
weight_of-weight-requires-clause-row c = let rows = (stands _ _ _ c.requires c.outcomes-outcomes.ensures).0 in omega arith

pub weight_of-weight-requires-clause-divides : goal.weight_of-weight-requires-clause-divides
weight_of-weight-requires-clause-divides c =
    let P : ℕ → Type 0 = λ n. n ∣ unsigned_abs (multiplier_of c.args.tableau.now c.loop-j.j) in
    subst P (sym c.weight_divisor-divisor.ensures) (divisor_divides c.outcomes-outcomes.result.now c.args.tableau.now c.loop-j.j c.loop-j-test.true)

pub overflow_cast-result : goal.overflow_cast-result
overflow_cast-result c = let few = (stands _ _ _ c.requires c.outcomes-outcomes.ensures).1 in search rules

-- the weight that was read
read : (classes : List Outcome) (tableau : SimplexTableau) (j divisor weight : ℕ) → j < length classes → divisor ≡ weight_divisor classes tableau → weight ≡ unsigned_abs (divided divisor (multiplier_of tableau j)) → weight ≡ slice_index (class_weights classes tableau) j
read classes tableau j divisor weight within is here = here ∙ ap (λ g. unsigned_abs (divided g (multiplier_of tableau j))) is ∙ sym (weight_at classes tableau j within)

pub returns-then-weight-clause-wide : goal.returns-then-weight-clause-wide
returns-then-weight-clause-wide c =
    let outcomes = c.outcomes-outcomes.result.now in
    let tableau = c.args.tableau.now in
    let j = c.loop-j.j in
    let weight = read outcomes tableau j c.weight_divisor-divisor.result c.weight_of-weight.result c.loop-j-test.true c.weight_divisor-divisor.ensures c.weight_of-weight.ensures in
    let above = c.if-weight.true in
    let P : ℕ → Type 0 = λ n. MOST_PART < n in
    let found : FirstAbove MOST_PART (class_weights outcomes tableau) j = record { within = omega (arith, c.loop-j-test.true, length-weights outcomes tableau); above = subst P weight above; others = c.loop-j.invariant.none } in
    subst (λ classes. FirstAbove MOST_PART (class_weights classes tableau) j) c.outcomes-outcomes.ensures found

pub loop-j-preserved : goal.loop-j-preserved
loop-j-preserved c =
    let outcomes = c.outcomes-outcomes.result.now in
    let tableau = c.args.tableau.now in
    let weights = class_weights outcomes tableau in
    let j = c.loop-j.j in
    let weight = read outcomes tableau j c.weight_divisor-divisor.result c.weight_of-weight.result c.loop-j-test.true c.weight_divisor-divisor.ensures c.weight_of-weight.ensures in
    let P : ℕ → Type 0 = λ n. n ≤ MOST_PART in
    record {
      items = c.in_ok-push_weighted.ensures
          ∙ ap₂ (λ xs w. xs ++ filter has_weight ((slice_index_or outcomes j (Full 0 0), w) ∷ [])) c.loop-j.invariant.items weight
          ∙ sym (weighted_more outcomes weights j (Full 0 0) c.loop-j-test.true (length-weights outcomes tableau));
      none = below_more (λ k. slice_index weights k ≤ MOST_PART) j c.loop-j.invariant.none (subst P weight c.if-weight.false);
    }

pub returns-clause-measure : goal.returns-clause-measure
returns-clause-measure c =
    let outcomes = c.outcomes-outcomes.result.now in
    let tableau = c.args.tableau.now in
    let weights = class_weights outcomes tableau in
    let whole : length (zip outcomes weights) ≤ c.loop-j.j = omega (arith, c.loop-j-test.false, length-zip outcomes weights) in
    let none = none_above MOST_PART weights c.loop-j.j (omega (arith, c.loop-j-test.false, length-weights outcomes tableau)) c.loop-j.invariant.none in
    let is : c.of.result ≡ weighted_classes outcomes weights = c.of.ensures ∙ c.loop-j.invariant.items ∙ ap (filter has_weight) (take_all c.loop-j.j (zip outcomes weights) whole) in (
      subst (λ classes. NoneAbove MOST_PART (class_weights classes tableau)) c.outcomes-outcomes.ensures none,
      is ∙ ap (λ classes. weighted_classes classes (class_weights classes tableau)) c.outcomes-outcomes.ensures,
    )
