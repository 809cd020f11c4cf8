use Rattle.std.proofs.Common.{◌≡◌, ◌∙◌, ℕ, Option, refl, sym, ap, ap₂, subst, rules, add-one}
use Rattle.judging_definitions.specs.Columns.{offer_divisor}
use Rattle.judging_definitions.specs.Stakes.{Fraction, column_value, stake_in_column}
use Rattle.coherence_lp.specs.Ratios.{fraction_of, by_divisor}
use Rattle.coherence_lp.proofs.common_stakes.share_of.Goals as goal

pub overflow_cast-place : goal.overflow_cast-place
overflow_cast-place c = search rules

pub overflow_add-place : goal.overflow_add-place
overflow_add-place c = search rules

pub returns-in-Some-clause-value : goal.returns-in-Some-clause-value
returns-in-Some-clause-value c =
    let t = c.args.tableau.now in
    let divisor = offer_divisor c.args.classes.now c.args.offer.now in
    let share = by_divisor (fraction_of c.column_ratio.result) c.divisor_of_offer.result in
    let P : Option ℕ → Type 0 = λ o. share ≡ stake_in_column t divisor o in
    subst P (sym c.in-Some.is ∙ c.place_of.ensures.value)
    (ap₂ by_divisor (c.column_ratio.ensures.value ∙ ap (column_value t) (add-one c.in-Some.place)) c.divisor_of_offer.ensures)

pub returns-in-None-clause-value : goal.returns-in-None-clause-value
returns-in-None-clause-value c =
    let none : Fraction = record { numerator = 0; denominator = 1 } in
    let P : Option ℕ → Type 0 = λ o. by_divisor none 1 ≡ stake_in_column c.args.tableau.now (offer_divisor c.args.classes.now c.args.offer.now) o in
    subst P (sym c.in-None.is ∙ c.place_of.ensures.value) refl
