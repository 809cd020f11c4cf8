use Rattle.std.proofs.Common.{◌≡◌, ◌*◌, ◌<ℤ◌, length, refl, sym, subst, inl, inr, arith, to_z, of_z}
use Rattle.std.proofs.lemmas.Int.{ints}
use mir.Syntax.{w128}
use Rattle.settlement_definitions.specs.StandIns.{stand_ins}
use Rattle.finding_definitions.specs.Arbitrage.{total_gain}
use Rattle.finding_definitions.specs.Measure.{IsPriceMeasure}
use Rattle.finding_definitions.specs.Verdicts.{reach, IsRightArb, IsRightCoherent, IsRightThin}
use Rattle.finding_definitions.specs.Findings.{IsRightVerdict}
use Rattle.cert_checker.specs.declared.answer.Answer.TheVariants.{NoShape, NoOffer}
use Rattle.cert_checker.specs.declared.answer.Part.TheVariants.{Measure}
use Rattle.cert_checker.specs.Shapes.{HasShape, IsMeasureFault}
use Rattle.cert_checker.specs.Places.{AllHold}
use Rattle.cert_checker.specs.Losses.{Meets}
use Rattle.cert_checker.specs.Gains.{IsGain}
use Rattle.cert_checker.specs.Answers.{IsAnswer, IsWithin, unit_need}
use Rattle.cert_checker.proofs.Rightness.{arb_right, coherent_right, thin_right}
use Rattle.cert_checker.proofs.checking.try_in_order.Goals as goal
use Rattle.cert_checker.proofs.checking.try_in_order.Goals.{in-Arb+in_default-miscount+in_default-stake_above_limit+in_default-loss_of_stakes, in-Coherent+in_default-measure_fault+in_default-gaining_offer, in-Thin+in_default-shape_fault+in_default-measure_fault-2+in_default-part_above_limit+in_default-loss_of_parts+else-reach-need}

pub returns-in-Some-measure_fault-clause-answer : goal.returns-in-Some-measure_fault-clause-answer
returns-in-Some-measure_fault-clause-answer c =
    let k = c.in-Some-measure_fault.k in
    let fault : IsMeasureFault c.in-Coherent.measure k = subst (λ m. IsMeasureFault m k) c.items-entries.ensures c.in-Some-measure_fault.ensures.fault in
    subst (λ f. IsAnswer c.args.sheet.now f (NoShape Measure k)) (sym c.in-Coherent.is) (inl (k, refl, fault))

pub returns-in-Some-gaining_offer-clause-answer : goal.returns-in-Some-gaining_offer-clause-answer
returns-in-Some-gaining_offer-clause-answer c =
    let sheet = c.args.sheet.now in
    let m = c.in-Coherent.measure in
    let i = c.in-Some-gaining_offer.i in
    let mean = c.in-Some-gaining_offer.mean in
    let shown = to_z w128 (of_z w128 mean) in
    let exact : mean ≡ shown = omega (arith, ints) in
    let price : IsPriceMeasure m = subst IsPriceMeasure c.items-entries.ensures c.in_default-measure_fault.ensures.fault in
    let told : IsGain c.offers-offers.result.now c.items-entries.result.now i mean = c.in-Some-gaining_offer.ensures in
    let of_m : IsGain c.offers-offers.result.now m i mean = subst (λ l. IsGain c.offers-offers.result.now l i mean) c.items-entries.ensures told in
    let of_sheet : IsGain sheet m i mean = subst (λ o. IsGain o m i mean) c.offers-offers.ensures.value of_m in
    let gain : IsGain sheet m i shown = subst (λ z. IsGain sheet m i z) exact of_sheet in
    subst (λ f. IsAnswer sheet f (NoOffer i shown)) (sym c.in-Coherent.is) (inr (price, inl (i, shown, refl, gain)))

pub returns-in-Some-measure_fault-2-clause-answer : goal.returns-in-Some-measure_fault-2-clause-answer
returns-in-Some-measure_fault-2-clause-answer c =
    let k = c.in-Some-measure_fault-2.k in
    let shape : HasShape (length c.args.sheet.now) c.in-Thin.stakes = subst (λ o. HasShape (length o) c.in-Thin.stakes) c.offers-offers.ensures.value c.in_default-shape_fault.ensures.fault in
    let fault : IsMeasureFault c.in-Thin.measure k = subst (λ m. IsMeasureFault m k) c.items-entries-in-Thin.ensures c.in-Some-measure_fault-2.ensures.fault in
    subst (λ f. IsAnswer c.args.sheet.now f (NoShape Measure k)) (sym c.in-Thin.is) (inr (shape, inl (k, refl, fault)))

pub invariant_of-result : goal.invariant_of-result
invariant_of-result c =
    let sheet = c.args.sheet.now in
    let offers = c.offers-offers.result.now in
    let value = c.offers-offers.ensures.value in
    let right : IsRightVerdict sheet c.args.finding.now =
    elim c.match-finding.branch [
      | in-Arb+in_default-miscount+in_default-stake_above_limit+in_default-loss_of_stakes w ↦
          let items = w.items-items.result.now in
          let arb = arb_right offers items w.in_default-miscount.ensures w.in_default-stake_above_limit.ensures w.in_default-loss_of_stakes.ensures in
          subst (λ f. IsRightVerdict sheet f) (sym w.in-Arb.is) (subst (λ o. IsRightArb o w.in-Arb.stakes) value (subst (λ l. IsRightArb offers l) w.items-items.ensures arb))
      | in-Coherent+in_default-measure_fault+in_default-gaining_offer w ↦
          let entries = w.items-entries.result.now in
          let coherent = coherent_right offers entries w.in_default-measure_fault.ensures.fault w.in_default-gaining_offer.ensures in
          subst (λ f. IsRightVerdict sheet f) (sym w.in-Coherent.is) (subst (λ o. IsRightCoherent o w.in-Coherent.measure) value (subst (λ m. IsRightCoherent offers m) w.items-entries.ensures coherent))
      | in-Thin+in_default-shape_fault+in_default-measure_fault-2+in_default-part_above_limit+in_default-loss_of_parts+else-reach-need w ↦
          let entries = w.items-entries-in-Thin.result.now in
          let items = w.items-items-in-Thin.result.now in
          let stakes = w.in-Thin.stakes in
          let within : AllHold (IsWithin (λ o. o.limit * stakes.divisor) stakes.parts) offers =
          subst (λ d. AllHold (IsWithin (λ o. o.limit * d) stakes.parts) offers) w.divisor.ensures (subst (λ l. AllHold (IsWithin (λ o. o.limit * w.divisor.result) l) offers) w.items-items-in-Thin.ensures w.in_default-part_above_limit.ensures) in
          let met : AllHold (Meets (total_gain offers stakes.parts)) stand_ins = subst (λ l. AllHold (Meets (total_gain offers l)) stand_ins) w.items-items-in-Thin.ensures w.in_default-loss_of_parts.ensures in
          let most = w.reach-reach.ensures in
          let least = w.need_of_unit-need.ensures in
          let below : reach offers entries <ℤ unit_need entries = omega (arith, ints, most, least) in
          let thin = thin_right offers stakes.divisor stakes.parts entries w.in_default-shape_fault.ensures.fault w.in_default-measure_fault-2.ensures.fault within met below in
          subst (λ f. IsRightVerdict sheet f) (sym w.in-Thin.is) (subst (λ o. IsRightThin o stakes.divisor stakes.parts w.in-Thin.measure) value (subst (λ m. IsRightThin offers stakes.divisor stakes.parts m) w.items-entries-in-Thin.ensures thin))
    ] in
    record { right = ∣ right ∣₁ }
