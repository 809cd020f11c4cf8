use Rattle.std.proofs.Common.{◌<◌, ◌≡◌, ◌∙◌, ℕ, List, length, map, ap, sym, subst, arith}
use Rattle.std.specs.Prelude.{Err}
use Rattle.coherence_lp.specs.Faults.{IfWide}
use Rattle.std.proofs.lemmas.List.{length-map}
use Rattle.row_definitions.specs.Rows.{row_divisor}
use Rattle.coherence_lp.specs.Ends.{IsFirstEnd}
use Rattle.pivot_definitions.specs.Tableaus.{SimplexTableau}
use Rattle.scan_types.specs.declared.limits.TheConstants.{MOST_PART}
use Rattle.scan_types.specs.declared.offer.Offer.{Offer}
use Rattle.scan_types.specs.declared.outcome.Outcome.{Outcome}
use Rattle.settlement_definitions.specs.Classes.{classes_of}
use Rattle.judging_definitions.specs.declared.limits.TheConstants.{MOST_COMMON_DENOMINATOR}
use Rattle.judging_definitions.specs.Columns.{leading_offers}
use Rattle.judging_definitions.specs.Stakes.{Fraction, fractional_stakes, IsFittingDivisor}
use Rattle.judging_definitions.specs.Readings.{NoneAbove, FirstWideDenominator}
use Rattle.judging_definitions.specs.FirstRun.{first_stakes}
use Rattle.coherence_lp.specs.Ratios.{AreCommonStakes, item_of, IsWideStake}
use Rattle.coherence_lp.proofs.EndFacts.{reached_shape}
use Rattle.coherence_lp.proofs.StakeLists.{length-stakes, numerators}
use Rattle.coherence_lp.proofs.StakeReadings.{all_stand, ratio_count, direction_read, direction_fault, direction_stakes_fault, divisor_or_one}
use Rattle.coherence_lp.proofs.direction.read_direction.Goals as goal

first_columns : (classes : List Outcome) (offers : List Offer) (numbers : List ℕ) (t : SimplexTableau) → classes ≡ classes_of offers → numbers ≡ map (λ offer. offer.0) (leading_offers offers classes) → IsFirstEnd offers t → length numbers < t.columns
first_columns classes offers numbers t is all end =
    let columns = (reached_shape _ t end.0).columns in
    let leading = leading_offers offers (classes_of offers) in
    let first : ℕ × Offer → ℕ = λ offer. offer.0 in
    let second : ℕ × Offer → Offer = λ offer. offer.1 in
    let count : length numbers ≡ length leading = ap (λ (ns : List ℕ). length ns) all ∙ length-map (leading_offers offers classes) first ∙ ap (λ cs. length (leading_offers offers cs)) is in
    omega (arith, columns, count, length-map leading second)

-- what is known of the stakes
known : (classes : List Outcome) (offers : List Offer) (numbers : List ℕ) (t : SimplexTableau) → classes ≡ classes_of offers → numbers ≡ map (λ offer. offer.0) (leading_offers offers classes) → fractional_stakes classes offers numbers t ≡ first_stakes offers t
known classes offers numbers t is all =
    ap (λ ns. fractional_stakes classes offers ns t) all
    ∙ ap (λ cs. fractional_stakes cs offers (map (λ offer. offer.0) (leading_offers offers cs)) t) is

pub common_stakes-requires-clause-columns : goal.common_stakes-requires-clause-columns
common_stakes-requires-clause-columns c = first_columns c.args.classes.now c.args.sheet.now c.numbers-numbers.result.now c.args.tableau.now c.requires.classes (c.numbers-numbers.ensures ∙ c.requires.leading) c.requires.end

pub items_of-requires-clause-stand : goal.items_of-requires-clause-stand
items_of-requires-clause-stand c = all_stand _ c.in-Ok.stakes.ratios.items c.in-Ok.ensures.stakes.lowest

pub items_of-requires-clause-few : goal.items_of-requires-clause-few
items_of-requires-clause-few c =
    let count = ratio_count _ c.in-Ok.stakes.ratios.items c.in-Ok.ensures.stakes.lowest in
    let stakes = length-stakes c.args.classes.now c.args.sheet.now c.numbers-numbers.result.now c.args.tableau.now in
    let few = c.offers-offers.ensures.rising.few in
    omega (arith, count, stakes, few)

pub fitting_divisor-requires : goal.fitting_divisor-requires
fitting_divisor-requires c =
    let count = ratio_count _ c.in-Ok.stakes.ratios.items c.in-Ok.ensures.stakes.lowest in
    let stakes = length-stakes c.args.classes.now c.args.sheet.now c.numbers-numbers.result.now c.args.tableau.now in
    let f = item_of c.in-Ok.stakes.denominator c.max-divisor.result in
    let items = ap (λ (ns : List ℕ). length ns) (c.deref-in-Ok-items_of.ensures.value ∙ c.in-Ok-items_of.ensures.items) ∙ length-map c.in-Ok.stakes.ratios.items f in
    let sheet = ap (λ (os : List Offer). length os) c.offers-offers.ensures.value in
    omega (arith, count, stakes, items, sheet)

pub returns-clause-wide : goal.returns-clause-wide
returns-clause-wide c =
    let same = known c.args.classes.now c.args.sheet.now c.numbers-numbers.result.now c.args.tableau.now c.requires.classes (c.numbers-numbers.ensures ∙ c.requires.leading) in
    direction_stakes_fault c.args.sheet.now (first_stakes c.args.sheet.now c.args.tableau.now) c.in-Err.fault
    (subst (λ (fs : List Fraction). IfWide {A = ℕ} (Err c.in-Err.fault) (IsWideStake (FirstWideDenominator MOST_COMMON_DENOMINATOR fs))) same c.in-Err.ensures.wide)

pub returns-in-Ok-clause-wide : goal.returns-in-Ok-clause-wide
returns-in-Ok-clause-wide c =
    let same = known c.args.classes.now c.args.sheet.now c.numbers-numbers.result.now c.args.tableau.now c.requires.classes (c.numbers-numbers.ensures ∙ c.requires.leading) in
    let rs = c.in-Ok.stakes.ratios.items in
    let D = c.in-Ok.stakes.denominator in
    let are = subst (λ fs. AreCommonStakes fs MOST_COMMON_DENOMINATOR rs D) same c.in-Ok.ensures.stakes in
    let divisor = divisor_or_one rs c.numerator_divisor.result c.max-divisor.result (c.numerator_divisor.ensures ∙ ap (λ xs. row_divisor (numerators xs)) c.deref.ensures.value) c.max-divisor.ensures in
    direction_fault c.args.sheet.now (first_stakes c.args.sheet.now c.args.tableau.now) rs D c.max-divisor.result are divisor c.in-Err-items_of.fault c.in-Err-items_of.ensures.wide

pub returns-in-Ok-items_of-clause-direction : goal.returns-in-Ok-items_of-clause-direction
returns-in-Ok-items_of-clause-direction c =
    let same = known c.args.classes.now c.args.sheet.now c.numbers-numbers.result.now c.args.tableau.now c.requires.classes (c.numbers-numbers.ensures ∙ c.requires.leading) in
    let rs = c.in-Ok.stakes.ratios.items in
    let D = c.in-Ok.stakes.denominator in
    let are = subst (λ fs. AreCommonStakes fs MOST_COMMON_DENOMINATOR rs D) same c.in-Ok.ensures.stakes in
    let divisor = divisor_or_one rs c.numerator_divisor.result c.max-divisor.result (c.numerator_divisor.ensures ∙ ap (λ xs. row_divisor (numerators xs)) c.deref.ensures.value) c.max-divisor.ensures in
    let parts = c.of.ensures.parts in
    let fits = subst (λ ds. IsFittingDivisor c.args.sheet.now ds c.fitting_divisor.result) (c.deref-in-Ok-items_of.ensures.value ∙ sym parts) (subst (λ os. IsFittingDivisor os c.deref-in-Ok-items_of.result.now c.fitting_divisor.result) c.offers-offers.ensures.value c.fitting_divisor.ensures) in
    direction_read c.args.sheet.now (first_stakes c.args.sheet.now c.args.tableau.now) rs D c.max-divisor.result c.of.result are divisor (subst (NoneAbove MOST_PART) (sym parts) c.in-Ok-items_of.ensures.small) (parts ∙ c.in-Ok-items_of.ensures.items)
    (subst (λ d. IsFittingDivisor c.args.sheet.now c.of.result.parts d) (sym c.of.ensures.divisor) fits)
