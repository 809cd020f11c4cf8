use Rattle.std.proofs.Common.{◌+◌, ◌≤◌, List, length, sym, ap₂, ◌∙◌, subst, arith, refl}
use Rattle.std.specs.List.{All}
use Rattle.row_definitions.specs.Combination.{FitsEntry}
use Rattle.pivot_definitions.specs.Programs.{IsWithinLimits}
use Rattle.judging_definitions.specs.JudgingPrograms.{limited_program}
use Rattle.scan_types.specs.declared.offer.Offer.{Offer}
use Rattle.scan_types.specs.declared.outcome.Outcome.{Outcome}
use Rattle.coherence_lp.specs.Asked.{asked_for}
use Rattle.coherence_lp.proofs.WrittenPrograms.{scores_in_range, few_outcomes, table_long, class_part, limited_is, room}
use Rattle.coherence_lp.proofs.Sizes.{divided_table_fits, divisors_small, asked_fits, limited_within}
use Rattle.coherence_lp.proofs.programs.limited.Goals as goal

pub overflow_mul-rows : goal.overflow_mul-rows
overflow_mul-rows c =
    let few = few_outcomes _ _ _ c.outcomes-outcomes.ensures c.requires in
    let few_offers : length c.offers-offers.result.now ≤ 256 = subst (λ (xs : List Offer). length xs ≤ 256) (sym c.offers-offers.ensures.value) c.offers-offers.ensures.rising.few in
    let most = room (length c.outcomes-outcomes.result.now + length c.offers-offers.result.now + 1) (length c.offers-offers.result.now + 1) (omega (arith, few, few_offers)) (omega (arith, few_offers)) in
    omega (arith, most)

pub columns_of-requires : goal.columns_of-requires
columns_of-requires c = scores_in_range _ _ _ c.outcomes-outcomes.ensures c.requires

pub asked_at-requires-clause-scores : goal.asked_at-requires-clause-scores
asked_at-requires-clause-scores c = scores_in_range _ _ _ c.outcomes-outcomes.ensures c.requires

pub push_class_rows-requires-clause-table : goal.push_class_rows-requires-clause-table
push_class_rows-requires-clause-table c =
    table_long c.outcomes-outcomes.result.now c.offers-offers.result.now (asked_for c.args.needs c.offers-offers.result.now) c.deref.result.now c.deref-2.result.now (length c.offers-offers.result.now) (c.deref.ensures.value ∙ c.in_ok-asked.ensures) (c.deref-2.ensures.value ∙ c.in_ok-columns.ensures.gains) refl

pub push_class_rows-requires-clause-fits : goal.push_class_rows-requires-clause-fits
push_class_rows-requires-clause-fits c = subst (All FitsEntry) (sym (c.deref-2.ensures.value ∙ c.in_ok-columns.ensures.gains)) (divided_table_fits c.outcomes-outcomes.result.now c.offers-offers.result.now)

pub push_limits-requires-clause-small : goal.push_limits-requires-clause-small
push_limits-requires-clause-small c = subst (All (λ divisor. divisor ≤ 2000000)) (sym (c.deref-3.ensures.value ∙ c.in_ok-columns.ensures.divisors)) (divisors_small c.outcomes-outcomes.result.now c.offers-offers.result.now)

pub overflow_cast-rows : goal.overflow_cast-rows
overflow_cast-rows c =
    let few = few_outcomes _ _ _ c.outcomes-outcomes.ensures c.requires in
    let few_offers : length c.offers-offers.result.now ≤ 256 = subst (λ (xs : List Offer). length xs ≤ 256) (sym c.offers-offers.ensures.value) c.offers-offers.ensures.rising.few in
    omega (arith, few, few_offers)

pub of-requires : goal.of-requires
of-requires c =
    let offers = c.offers-offers.result.now in
    let classes = c.outcomes-outcomes.result.now in
    let asked = asked_for c.args.needs offers in
    let few = few_outcomes _ _ _ c.outcomes-outcomes.ensures c.requires in
    let few_offers : length offers ≤ 256 = subst (λ (xs : List Offer). length xs ≤ 256) (sym c.offers-offers.ensures.value) c.offers-offers.ensures.rising.few in
    let rows = class_part classes offers asked _ _ _ _ (length offers) (c.deref.ensures.value ∙ c.in_ok-asked.ensures) (c.deref-2.ensures.value ∙ c.in_ok-columns.ensures.gains) refl c.in_ok-coefs.ensures.items c.in_ok-push_class_rows.ensures in
    let is = limited_is classes offers asked _ _ _ _ _ _ _ _ rows c.in_ok-push_limit_rows.ensures c.in_ok-push_unit_row.ensures c.in_ok-right.ensures.items c.in_ok-push_zeros.ensures (c.deref-3.ensures.value ∙ c.in_ok-columns.ensures.divisors) c.in_ok-push_limits.ensures c.in_ok-push.ensures.items in
    subst IsWithinLimits (sym is) (limited_within classes offers asked few few_offers (λ x. asked_fits c.args.needs offers x few_offers))

pub returns : goal.returns
returns c =
    let offers = c.offers-offers.result.now in
    let classes = c.outcomes-outcomes.result.now in
    let asked = asked_for c.args.needs offers in
    let rows = class_part classes offers asked _ _ _ _ (length offers) (c.deref.ensures.value ∙ c.in_ok-asked.ensures) (c.deref-2.ensures.value ∙ c.in_ok-columns.ensures.gains) refl c.in_ok-coefs.ensures.items c.in_ok-push_class_rows.ensures in
    let is = limited_is classes offers asked _ _ _ _ _ _ _ _ rows c.in_ok-push_limit_rows.ensures c.in_ok-push_unit_row.ensures c.in_ok-right.ensures.items c.in_ok-push_zeros.ensures (c.deref-3.ensures.value ∙ c.in_ok-columns.ensures.divisors) c.in_ok-push_limits.ensures c.in_ok-push.ensures.items in
    c.of.ensures ∙ is ∙ ap₂ (λ (os : List Offer) (cs : List Outcome). limited_program cs os (asked_for c.args.needs os)) c.offers-offers.ensures.value c.outcomes-outcomes.ensures
