use Rattle.std.proofs.Common.{◌≡◌, ℕ, ◌+◌, ◌<◌, ◌≤◌, List, length, sym, ap₂, ◌∙◌, subst, subst₂, arith, rules}
use Rattle.std.specs.List.{All}
use Rattle.row_definitions.specs.Combination.{FitsEntry}
use Rattle.pivot_definitions.specs.Programs.{IsWithinLimits}
use Rattle.finding_definitions.specs.Arbitrage.{need}
use Rattle.judging_definitions.specs.JudgingPrograms.{homogeneous_program}
use Rattle.scan_types.specs.declared.offer.Offer.{Offer}
use Rattle.scan_types.specs.declared.outcome.Outcome.{Outcome}
use Rattle.coherence_lp.proofs.Picked.{leading_within, leaders_picked, leaders_few}
use Rattle.coherence_lp.proofs.WrittenPrograms.{scores_in_range, few_outcomes, table_long, class_part, homogeneous_is, room}
use Rattle.coherence_lp.proofs.Sizes.{divided_table_fits, homogeneous_within}
use Rattle.coherence_lp.proofs.programs.homogeneous.Goals as goal

pub picked-requires : goal.picked-requires
picked-requires c =
    subst₂ (λ (os : List Offer) (ns : List ℕ). All (λ number. number < length os) ns) (sym c.offers.ensures.value) (sym (c.numbers.ensures ∙ c.requires.leading)) (leading_within c.args.sheet.now c.args.classes.now)

pub overflow_mul-rows : goal.overflow_mul-rows
overflow_mul-rows c =
    let few = few_outcomes _ _ _ c.outcomes-outcomes.ensures c.requires.classes in
    let few_offers = leaders_few c.args.sheet.now c.args.classes.now _ _ _ c.offers.ensures.value (c.numbers.ensures ∙ c.requires.leading) c.in_ok-offers.ensures c.offers.ensures.rising.few in
    let width : c.len-width.result ≡ length c.in_ok-offers.offers.items = search rules in
    let most = room (length c.outcomes-outcomes.result.now + 1) (c.len-width.result + 1) (omega (arith, few)) (omega (arith, few_offers, width)) in
    omega (arith, most)

pub columns_of-requires : goal.columns_of-requires
columns_of-requires c = scores_in_range _ _ _ c.outcomes-outcomes.ensures c.requires.classes

pub push_class_rows-requires-clause-table : goal.push_class_rows-requires-clause-table
push_class_rows-requires-clause-table c =
    let count : c.len.result ≡ length c.deref.result.now = search rules in
    table_long c.outcomes-outcomes.result.now c.deref.result.now need c.deref-2.result.now c.deref-3.result.now c.len.result (c.deref-2.ensures.value ∙ c.in_ok-needed_at.ensures) (c.deref-3.ensures.value ∙ c.in_ok-columns.ensures.gains) count

pub push_class_rows-requires-clause-fits : goal.push_class_rows-requires-clause-fits
push_class_rows-requires-clause-fits c = subst (All FitsEntry) (sym (c.deref-3.ensures.value ∙ c.in_ok-columns.ensures.gains)) (divided_table_fits c.outcomes-outcomes.result.now c.deref.result.now)

pub overflow_cast-width : goal.overflow_cast-width
overflow_cast-width c =
    let few_offers = leaders_few c.args.sheet.now c.args.classes.now _ _ _ c.offers.ensures.value (c.numbers.ensures ∙ c.requires.leading) c.in_ok-offers.ensures c.offers.ensures.rising.few in
    let width : c.len-width.result ≡ length c.in_ok-offers.offers.items = search rules in
    omega (arith, few_offers, width)

pub overflow_cast-rows : goal.overflow_cast-rows
overflow_cast-rows c =
    let few = few_outcomes _ _ _ c.outcomes-outcomes.ensures c.requires.classes in
    omega (arith, few)

pub of-requires : goal.of-requires
of-requires c =
    let offers = c.deref.result.now in
    let classes = c.outcomes-outcomes.result.now in
    let few = few_outcomes _ _ _ c.outcomes-outcomes.ensures c.requires.classes in
    let few_picked = leaders_few c.args.sheet.now c.args.classes.now _ _ _ c.offers.ensures.value (c.numbers.ensures ∙ c.requires.leading) c.in_ok-offers.ensures c.offers.ensures.rising.few in
    let few_offers : length offers ≤ 256 = subst (λ (xs : List Offer). length xs ≤ 256) (sym c.deref.ensures.value) few_picked in
    let count : c.len.result ≡ length offers = search rules in
    let width : c.len-width.result ≡ length offers = search rules in
    let rows = class_part classes offers need _ _ _ _ c.len.result (c.deref-2.ensures.value ∙ c.in_ok-needed_at.ensures) (c.deref-3.ensures.value ∙ c.in_ok-columns.ensures.gains) count c.in_ok-coefs.ensures.items c.in_ok-push_class_rows.ensures in
    let is = homogeneous_is classes offers c.len-width.result _ _ _ _ _ width rows c.in_ok-push_unit_row.ensures c.in_ok-right.ensures.items c.in_ok-push_zeros.ensures c.in_ok-push.ensures.items in
    subst IsWithinLimits (sym is) (homogeneous_within classes offers few few_offers)

pub returns : goal.returns
returns c =
    let offers = c.deref.result.now in
    let classes = c.outcomes-outcomes.result.now in
    let picked = leaders_picked c.args.sheet.now c.args.classes.now _ _ _ c.offers.ensures.value (c.numbers.ensures ∙ c.requires.leading) c.in_ok-offers.ensures in
    let count : c.len.result ≡ length offers = search rules in
    let width : c.len-width.result ≡ length offers = search rules in
    let rows = class_part classes offers need _ _ _ _ c.len.result (c.deref-2.ensures.value ∙ c.in_ok-needed_at.ensures) (c.deref-3.ensures.value ∙ c.in_ok-columns.ensures.gains) count c.in_ok-coefs.ensures.items c.in_ok-push_class_rows.ensures in
    let is = homogeneous_is classes offers c.len-width.result _ _ _ _ _ width rows c.in_ok-push_unit_row.ensures c.in_ok-right.ensures.items c.in_ok-push_zeros.ensures c.in_ok-push.ensures.items in
    c.of.ensures ∙ is ∙ ap₂ (λ (os : List Offer) (cs : List Outcome). homogeneous_program cs os) (c.deref.ensures.value ∙ picked) c.outcomes-outcomes.ensures
