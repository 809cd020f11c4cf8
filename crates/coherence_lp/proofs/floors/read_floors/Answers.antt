use Rattle.std.proofs.Common.{◌≡◌, ◌∙◌, ℕ, ◌+◌, ◌/◌, ◌<◌, ◌≤◌, List, [], ◌∷◌, ◌++◌, length, ap, ap₂, sym, subst, arith, add-one, rules}
use Rattle.std.specs.Prelude.{slice_index_or}
use Rattle.std.specs.List.{All}
use Rattle.std.proofs.lemmas.List.{take_all, take_more, length-map}
use Rattle.pivot_definitions.specs.Tableaus.{SimplexTableau}
use Rattle.scan_types.specs.declared.limits.TheConstants.{MOST_LIMIT}
use Rattle.scan_types.specs.declared.offer.Offer.{Offer}
use Rattle.scan_types.specs.declared.outcome.Outcome.{Outcome}
use Rattle.settlement_definitions.specs.Scores.{HasScoresInRange}
use Rattle.settlement_definitions.specs.Classes.{classes_of}
use Rattle.judging_definitions.specs.Columns.{offer_divisor}
use Rattle.judging_definitions.specs.Stakes.{Fraction, column_value, fractional_stakes, all_numbers, floors}
use Rattle.judging_laws.proofs.ClassFacts.{each_at, classes_in_range}
use Rattle.judging_laws.proofs.Parts.{divisor_above_zero}
use Rattle.coherence_lp.specs.Ends.{IsLimitedEnd}
use Rattle.coherence_lp.proofs.StakeLists.{length-stakes}
use Rattle.coherence_lp.proofs.LimitedStakes.{limited_columns, limited_is_best, floor_at, floor_small}
use Rattle.coherence_lp.proofs.floors.read_floors.Goals as goal

pub column_ratio-value-requires-clause-end : goal.column_ratio-value-requires-clause-end
column_ratio-value-requires-clause-end c = limited_is_best c.args.sheet.now c.args.tableau.now c.requires.end

pub column_ratio-value-requires-clause-column : goal.column_ratio-value-requires-clause-column
column_ratio-value-requires-clause-column c =
    let columns = limited_columns c.args.sheet.now c.args.tableau.now c.requires.end in
    let count = ap (λ (os : List Offer). length os) c.offers-offers.ensures.value in
    omega (arith, columns, count)

pub divisor_of_offer-divisor-requires : goal.divisor_of_offer-divisor-requires
divisor_of_offer-divisor-requires c = subst (All HasScoresInRange) (sym (c.outcomes-outcomes.ensures ∙ c.requires.classes)) (each_at HasScoresInRange _ (classes_in_range c.args.sheet.now))

pub nonzero_div-value-in-loop-i : goal.nonzero_div-value-in-loop-i
nonzero_div-value-in-loop-i c =
    let offers = c.offers-offers.result.now in
    let o = c.index-offers-i.result in
    let classes = c.outcomes-outcomes.ensures ∙ c.requires.classes ∙ ap classes_of (sym c.offers-offers.ensures.value) in
    let P : List Outcome → Type 0 = λ cs. 1 ≤ offer_divisor cs o in
    let Q : Offer → Type 0 = λ x. 1 ≤ offer_divisor (classes_of offers) x in
    let N : ℕ → Type 0 = λ n. 1 ≤ n in
    subst N (sym c.divisor_of_offer-divisor.ensures) (subst P (sym classes) (subst Q (sym c.index-offers-i.is) (divisor_above_zero offers c.loop-i.i o c.loop-i-test.true)))

-- what is pushed is the stake rounded down
pushed_is : (classes : List Outcome) (offers : List Offer) (t : SimplexTableau) (i numerator denominator divisor : ℕ) (o : Offer) → i < length offers → o ≡ slice_index_or offers i o → record { numerator = numerator; denominator = denominator } ≡ column_value t (i + 1) → divisor ≡ offer_divisor classes o → numerator / denominator / divisor ≡ slice_index_or (floors (fractional_stakes classes offers (all_numbers offers) t)) i 0
pushed_is classes offers t i numerator denominator divisor o within here value is =
    let floor : Fraction → ℕ = λ f. f.numerator / f.denominator in
    ap₂ (λ a b. a / b) (ap floor value ∙ ap (λ k. floor (column_value t k)) (add-one i)) (is ∙ ap (offer_divisor classes) here)
    ∙ sym (floor_at classes offers t i o within)

pub overflow_cast-value : goal.overflow_cast-value
overflow_cast-value c =
    let offers = c.offers-offers.result.now in
    let classes = c.outcomes-outcomes.result.now in
    let t = c.args.tableau.now in
    let i = c.loop-i.i in
    let value = c.column_ratio-value.result in
    let o = c.index-offers-i.result in
    let is = pushed_is classes offers t i value.numerator value.denominator c.divisor_of_offer-divisor.result o c.loop-i-test.true c.index-offers-i.is c.column_ratio-value.ensures.value c.divisor_of_offer-divisor.ensures in
    let E : List Offer → Type 0 = λ os. IsLimitedEnd os t in
    let small = floor_small offers t i o (subst E (sym c.offers-offers.ensures.value) c.requires.end) c.loop-i-test.true in
    let C : List Outcome → Type 0 = λ cs. slice_index_or (floors (fractional_stakes cs offers (all_numbers offers) t)) i 0 ≤ MOST_LIMIT in
    let less = subst C (sym (c.outcomes-outcomes.ensures ∙ c.requires.classes ∙ ap classes_of (sym c.offers-offers.ensures.value))) small in
    let N : ℕ → Type 0 = λ n. n ≤ MOST_LIMIT in
    let fits = subst N (sym is) less in
    search rules

pub loop-i-preserved : goal.loop-i-preserved
loop-i-preserved c =
    let offers = c.offers-offers.result.now in
    let classes = c.outcomes-outcomes.result.now in
    let t = c.args.tableau.now in
    let i = c.loop-i.i in
    let value = c.column_ratio-value.result in
    let stakes = fractional_stakes classes offers (all_numbers offers) t in
    let is = pushed_is classes offers t i value.numerator value.denominator c.divisor_of_offer-divisor.result c.index-offers-i.result c.loop-i-test.true c.index-offers-i.is c.column_ratio-value.ensures.value c.divisor_of_offer-divisor.ensures in
    let long : i < length (floors stakes) = omega (arith, c.loop-i-test.true, length-stakes classes offers (all_numbers offers) t, length-map stakes (λ (f : Fraction). f.numerator / f.denominator)) in
    c.in_ok-push.ensures.items ∙ ap₂ (λ xs x. xs ++ x ∷ []) c.loop-i.invariant is ∙ sym (take_more (floors stakes) i 0 long)

pub returns : goal.returns
returns c =
    let offers = c.offers-offers.result.now in
    let classes = c.outcomes-outcomes.result.now in
    let t = c.args.tableau.now in
    let stakes = fractional_stakes classes offers (all_numbers offers) t in
    let whole = take_all c.loop-i.i (floors stakes) (omega (arith, c.loop-i-test.false, length-stakes classes offers (all_numbers offers) t, length-map stakes (λ (f : Fraction). f.numerator / f.denominator))) in
    c.of.ensures ∙ c.loop-i.invariant ∙ whole
    ∙ ap₂ (λ cs os. floors (fractional_stakes cs os (all_numbers os) t)) (c.outcomes-outcomes.ensures ∙ c.requires.classes) c.offers-offers.ensures.value
