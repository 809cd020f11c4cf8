use Rattle.std.proofs.Common.{◌≡◌, ◌∙◌, ℕ, ◌+◌, ◌<◌, ◌≤◌, List, [], ◌∷◌, ◌++◌, length, map, take, ap, sym, subst, arith, mul-pos}
use Rattle.std.specs.Prelude.{slice_index_or}
use Rattle.std.specs.List.{All, AllZip}
use Rattle.std.proofs.lemmas.List.{take_all, map-append}
use Rattle.std.proofs.lemmas.List.Elements.{all_zip_more}
use Rattle.pivot_definitions.specs.Tableaus.{SimplexTableau}
use Rattle.scan_types.specs.declared.offer.Offer.{Offer}
use Rattle.scan_types.specs.declared.outcome.Outcome.{Outcome}
use Rattle.settlement_definitions.specs.Scores.{HasScoresInRange}
use Rattle.settlement_definitions.specs.Classes.{classes_of}
use Rattle.judging_definitions.specs.Columns.{offer_divisor}
use Rattle.judging_definitions.specs.Stakes.{Fraction, stake_in_column, fractional_stakes}
use Rattle.judging_definitions.specs.Readings.{FirstWideDenominator}
use Rattle.judging_laws.proofs.ClassFacts.{each_at, classes_in_range}
use Rattle.judging_laws.proofs.Parts.{divisor_above_zero}
use Rattle.judging_laws.proofs.Spread.{place}
use Rattle.coherence_lp.specs.declared.ratio.Ratio.{Ratio}
use Rattle.coherence_lp.specs.Ratios.{fraction_of, by_divisor, IsLowestForm, IsWholeBy, AreCommonStakes}
use Rattle.coherence_lp.proofs.StakeLists.{LowestForms, length-stakes, stake_at, whole_none, whole_step, small_more, first_wide}
use Rattle.coherence_lp.proofs.common_stakes.common_stakes.Goals as goal

pub loop-i-init : goal.loop-i-init
loop-i-init c =
    let stakes = fractional_stakes c.outcomes-outcomes.result.now c.offers-offers.result.now c.args.numbers.now c.args.tableau.now in
    record {
      lowest = subst (λ (rs : List Ratio). LowestForms (take 0 stakes) rs) (sym c.in_ok-ratios.ensures.items) tt;
      common = whole_none;
      small = c.requires.most;
      others = λ before h. absurd (omega (arith, h));
    }

pub share_of-share-requires-clause-scores : goal.share_of-share-requires-clause-scores
share_of-share-requires-clause-scores c = subst (All HasScoresInRange) (sym (c.outcomes-outcomes.ensures ∙ c.requires.classes)) (each_at HasScoresInRange _ (classes_in_range c.args.sheet.now))

pub share_of-share-requires-clause-divisor : goal.share_of-share-requires-clause-divisor
share_of-share-requires-clause-divisor c =
    let offers = c.offers-offers.result.now in
    let o = c.index-offers-i.result in
    let classes = c.outcomes-outcomes.ensures ∙ c.requires.classes ∙ ap classes_of (sym c.offers-offers.ensures.value) in
    let P : List Outcome → Type 0 = λ cs. 1 ≤ offer_divisor cs o in
    let Q : Offer → Type 0 = λ x. 1 ≤ offer_divisor (classes_of offers) x in
    subst P (sym classes) (subst Q (sym c.index-offers-i.is) (divisor_above_zero offers c.loop-i.i o c.loop-i-test.true))

-- the share of an offer is its stake
share_is : (classes : List Outcome) (offers : List Offer) (numbers : List ℕ) (t : SimplexTableau) (i : ℕ) (o : Offer) (share d : Fraction) → i < length offers → o ≡ slice_index_or offers i o → share ≡ stake_in_column t (offer_divisor classes o) (place i numbers) → share ≡ slice_index_or (fractional_stakes classes offers numbers t) i d
share_is classes offers numbers t i o share d within here is =
    is ∙ ap (λ x. stake_in_column t (offer_divisor classes x) (place i numbers)) here ∙ sym (stake_at classes offers numbers t i o d within)

pub returns-in_default-clause-wide : goal.returns-in_default-clause-wide
returns-in_default-clause-wide c =
    let offers = c.offers-offers.result.now in
    let classes = c.outcomes-outcomes.result.now in
    let numbers = c.args.numbers.now in
    let t = c.args.tableau.now in
    let most = c.args.most in
    let i = c.loop-i.i in
    let stakes = fractional_stakes classes offers numbers t in
    let share = c.share_of-share.result in
    let f = by_divisor (fraction_of share.value) share.divisor in
    let here = share_is classes offers numbers t i c.index-offers-i.result f f c.loop-i-test.true c.index-offers-i.is c.share_of-share.ensures.value in
    let P : Fraction → Type 0 = λ x. 1 ≤ x.denominator in
    let found = first_wide most stakes i c.loop-i.denominator f (omega (arith, c.loop-i-test.true, length-stakes classes offers numbers t)) (subst P here (mul-pos c.share_of-share.ensures.stands c.share_of-share.ensures.divisor)) c.loop-i.invariant.common c.loop-i.invariant.others
    (λ lowest is. let Q : Fraction → Type 0 = λ x. IsLowestForm x lowest in c.in_default.ensures.none lowest (subst Q (sym here) is)) in
    subst (λ os. FirstWideDenominator most (fractional_stakes c.args.classes.now os numbers t) i) c.offers-offers.ensures.value
    (subst (λ cs. FirstWideDenominator most (fractional_stakes cs offers numbers t) i) c.outcomes-outcomes.ensures found)

pub loop-i-preserved : goal.loop-i-preserved
loop-i-preserved c =
    let offers = c.offers-offers.result.now in
    let classes = c.outcomes-outcomes.result.now in
    let numbers = c.args.numbers.now in
    let t = c.args.tableau.now in
    let most = c.args.most in
    let i = c.loop-i.i in
    let stakes = fractional_stakes classes offers numbers t in
    let share = c.share_of-share.result in
    let f = by_divisor (fraction_of share.value) share.divisor in
    let here = share_is classes offers numbers t i c.index-offers-i.result f f c.loop-i-test.true c.index-offers-i.is c.share_of-share.ensures.value in
    let within : i < length stakes = omega (arith, c.loop-i-test.true, length-stakes classes offers numbers t) in
    let ratios = c.loop-i.ratios.items in
    let ratio = c.in-Some.step.ratio in
    let Q : Fraction → Type 0 = λ x. IsLowestForm x (fraction_of ratio) in
    let common = whole_step stakes i f (fraction_of ratio) c.loop-i.denominator c.in-Some.step.denominator within c.loop-i.invariant.common (subst Q here c.in-Some.ensures.lowest) c.in-Some.ensures.multiple in
    let more = all_zip_more IsLowestForm stakes (map fraction_of ratios) i f (fraction_of ratio) within here c.loop-i.invariant.lowest c.in-Some.ensures.lowest in
    let items : c.push.new.self.items ≡ ratios ++ ratio ∷ [] = c.in_ok-push.ensures.items in
    record {
      lowest = subst (AllZip IsLowestForm (take (i + 1) stakes)) (sym (ap (map fraction_of) items ∙ map-append fraction_of ratios (ratio ∷ []))) more;
      common = common;
      small = c.in-Some.ensures.small;
      others = small_more most stakes i c.in-Some.step.denominator c.loop-i.invariant.others common c.in-Some.ensures.small;
    }

pub returns-clause-stakes : goal.returns-clause-stakes
returns-clause-stakes c =
    let offers = c.offers-offers.result.now in
    let classes = c.outcomes-outcomes.result.now in
    let numbers = c.args.numbers.now in
    let t = c.args.tableau.now in
    let stakes = fractional_stakes classes offers numbers t in
    let whole = take_all c.loop-i.i stakes (omega (arith, c.loop-i-test.false, length-stakes classes offers numbers t)) in
    let found : AreCommonStakes stakes c.args.most c.loop-i.ratios.items c.loop-i.denominator = record {
      lowest = subst (λ fs. LowestForms fs c.loop-i.ratios.items) whole c.loop-i.invariant.lowest;
      common = subst (λ fs. IsWholeBy fs c.loop-i.denominator) whole c.loop-i.invariant.common;
      small = c.loop-i.invariant.small;
    } in
    subst (λ os. AreCommonStakes (fractional_stakes c.args.classes.now os numbers t) c.args.most c.loop-i.ratios.items c.loop-i.denominator) c.offers-offers.ensures.value
    (subst (λ cs. AreCommonStakes (fractional_stakes cs offers numbers t) c.args.most c.loop-i.ratios.items c.loop-i.denominator) c.outcomes-outcomes.ensures found)
