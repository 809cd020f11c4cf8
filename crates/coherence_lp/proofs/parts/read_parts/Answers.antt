use Rattle.std.proofs.Common.{◌≡◌, ◌∙◌, ℕ, List, length, ap, ap₂, sym, subst, arith}
use Rattle.std.specs.List.{range_with_len}
use Rattle.pivot_definitions.proofs.Built.{length-range}
use Rattle.scan_types.specs.declared.limits.TheConstants.{MOST_PART}
use Rattle.pivot_definitions.specs.Tableaus.{SimplexTableau}
use Rattle.scan_types.specs.declared.offer.Offer.{Offer}
use Rattle.scan_types.specs.declared.outcome.Outcome.{Outcome}
use Rattle.settlement_definitions.specs.Classes.{classes_of}
use Rattle.judging_definitions.specs.Stakes.{fractional_stakes, all_numbers}
use Rattle.judging_definitions.specs.Readings.{NoneAbove}
use Rattle.judging_laws.specs.Laws.{limited_stakes}
use Rattle.coherence_lp.specs.declared.ratio.Ratio.{Ratio}
use Rattle.coherence_lp.specs.Ratios.{AreCommonStakes}
use Rattle.coherence_lp.proofs.LimitedStakes.{limited_columns}
use Rattle.coherence_lp.proofs.StakeLists.{length-stakes}
use Rattle.coherence_lp.proofs.StakeReadings.{all_stand, ratio_count, parts_read, parts_fault}
use Rattle.coherence_lp.proofs.parts.read_parts.Goals as goal

pub common_stakes-requires-clause-columns : goal.common_stakes-requires-clause-columns
common_stakes-requires-clause-columns c =
    let columns = limited_columns c.args.sheet.now c.args.tableau.now c.requires.end in
    let count = ap (λ (os : List Offer). length os) c.offers.ensures.value in
    let numbers = ap (λ (ns : List ℕ). length ns) (c.deref.ensures.value ∙ c.in_ok-numbers.ensures) ∙ length-range 0 (length c.offers.result.now) in
    omega (arith, columns, count, numbers)

-- what is known of the stakes
known : (classes : List Outcome) (sheet : List Offer) (numbers : List ℕ) (t : SimplexTableau) (rs : List Ratio) (D : ℕ) → classes ≡ classes_of sheet → numbers ≡ all_numbers sheet → AreCommonStakes (fractional_stakes classes sheet numbers t) MOST_PART rs D → AreCommonStakes (limited_stakes sheet t) MOST_PART rs D
known classes sheet numbers t rs D is all are = subst (λ fs. AreCommonStakes fs MOST_PART rs D) (ap₂ (λ cs ns. fractional_stakes cs sheet ns t) is all) are

pub items_of-requires-clause-stand : goal.items_of-requires-clause-stand
items_of-requires-clause-stand c = all_stand _ c.in-Ok.stakes.ratios.items c.in-Ok.ensures.stakes.lowest

pub items_of-requires-clause-few : goal.items_of-requires-clause-few
items_of-requires-clause-few c =
    let count = ratio_count _ c.in-Ok.stakes.ratios.items c.in-Ok.ensures.stakes.lowest in
    let stakes = length-stakes c.args.classes.now c.args.sheet.now c.deref.result.now c.args.tableau.now in
    let few = c.offers.ensures.rising.few in
    omega (arith, count, stakes, few)

pub returns-in-Ok-clause-wide : goal.returns-in-Ok-clause-wide
returns-in-Ok-clause-wide c =
    let t = c.args.tableau.now in
    let sheet = c.args.sheet.now in
    let numbers = c.deref.ensures.value ∙ c.in_ok-numbers.ensures ∙ ap (λ (os : List Offer). range_with_len 0 (length os)) c.offers.ensures.value in
    let rs = c.in-Ok.stakes.ratios.items in
    let D = c.in-Ok.stakes.denominator in
    let are = known c.args.classes.now sheet c.deref.result.now t rs D c.requires.classes numbers c.in-Ok.ensures.stakes in
    parts_fault (limited_stakes sheet t) rs D are c.in-Err-items_of.fault c.in-Err-items_of.ensures.wide

pub returns-in-Ok-items_of-clause-parts : goal.returns-in-Ok-items_of-clause-parts
returns-in-Ok-items_of-clause-parts c =
    let t = c.args.tableau.now in
    let sheet = c.args.sheet.now in
    let numbers = c.deref.ensures.value ∙ c.in_ok-numbers.ensures ∙ ap (λ (os : List Offer). range_with_len 0 (length os)) c.offers.ensures.value in
    let rs = c.in-Ok.stakes.ratios.items in
    let D = c.in-Ok.stakes.denominator in
    let are = known c.args.classes.now sheet c.deref.result.now t rs D c.requires.classes numbers c.in-Ok.ensures.stakes in
    parts_read (limited_stakes sheet t) rs D c.of.result are (subst (NoneAbove MOST_PART) (sym c.of.ensures.parts) c.in-Ok-items_of.ensures.small) c.of.ensures.divisor (c.of.ensures.parts ∙ c.in-Ok-items_of.ensures.items)
