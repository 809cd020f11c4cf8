use Rattle.std.proofs.Common.{◌*◌, length, refl, subst, inl, inr}
use Rattle.settlement_definitions.specs.StandIns.{stand_ins}
use Rattle.finding_definitions.specs.Arbitrage.{total_gain}
use Rattle.finding_definitions.specs.Measure.{IsPriceMeasure}
use Rattle.finding_definitions.specs.Best.{Ties}
use Rattle.cert_checker.specs.Shapes.{HasShape, IsMeasureFault}
use Rattle.cert_checker.specs.Places.{AllHold}
use Rattle.cert_checker.specs.Answers.{IsWithin}
use Rattle.best_checker.specs.Amounts.{IsSureGain, IsBound}
use Rattle.best_checker.specs.Abandonments.{KeepsAll}
use Rattle.best_checker.proofs.Rightness.{ties_by_amounts}
use Rattle.best_checker.proofs.checking.try_in_order.Goals as goal

pub returns-in-Some-measure_fault : goal.returns-in-Some-measure_fault
returns-in-Some-measure_fault c =
    let k = c.in-Some-measure_fault.k in
    let shape : HasShape (length c.args.sheet.now) c.args.parts.now = subst (λ o. HasShape (length o) c.args.parts.now) c.offers-offers.ensures.value c.in_default.ensures.fault in
    let fault : IsMeasureFault c.args.measure.now k = subst (λ m. IsMeasureFault m k) c.items-entries.ensures c.in-Some-measure_fault.ensures.fault in
    inr (shape, inl (k, refl, fault))

pub returns-then-same : goal.returns-then-same
returns-then-same c =
    let offers = c.offers-offers.result.now in
    let items = c.items-items.result.now in
    let entries = c.items-entries.result.now in
    let sheet = c.args.sheet.now in
    let stakes = c.args.parts.now in
    let measure = c.args.measure.now in
    let value = c.offers-offers.ensures.value in
    let shape : HasShape (length sheet) stakes = subst (λ o. HasShape (length o) stakes) value c.in_default.ensures.fault in
    let price : IsPriceMeasure measure = subst IsPriceMeasure c.items-entries.ensures c.in_default-measure_fault.ensures.fault in
    let within : AllHold (IsWithin (λ o. o.limit * stakes.divisor) stakes.parts) sheet =
    subst (λ s. AllHold (IsWithin (λ o. o.limit * stakes.divisor) stakes.parts) s) value
    (subst (λ d. AllHold (IsWithin (λ o. o.limit * d) stakes.parts) offers) c.divisor.ensures (subst (λ l. AllHold (IsWithin (λ o. o.limit * c.divisor.result) l) offers) c.items-items.ensures c.in_default-part_above_limit.ensures)) in
    let kept : AllHold (KeepsAll (total_gain sheet stakes.parts)) stand_ins =
    subst (λ s. AllHold (KeepsAll (total_gain s stakes.parts)) stand_ins) value (subst (λ l. AllHold (KeepsAll (total_gain offers l)) stand_ins) c.items-items.ensures c.in_default-loss_at_abandonment.ensures) in
    let g = c.sure_gain-gain.result in
    let b = c.bound-bound.result in
    let sure : IsSureGain sheet stakes.divisor stakes.parts g =
    subst (λ s. IsSureGain s stakes.divisor stakes.parts g) value
    (subst (λ d. IsSureGain offers d stakes.parts g) c.divisor-2.ensures (subst (λ l. IsSureGain offers c.divisor-2.result l g) c.items-items.ensures c.sure_gain-gain.ensures)) in
    let most : IsBound sheet measure b = subst (λ s. IsBound s measure b) value (subst (λ m. IsBound offers m b) c.items-entries.ensures c.bound-bound.ensures) in
    let ties : Ties sheet stakes.divisor stakes.parts measure =
    ties_by_amounts sheet stakes.divisor stakes.parts measure g b shape.divisor.0 price sure most (c.same.ensures.0 c.if-same.true) in
    inr (shape, inr (price, inr (within, inr (kept, inr (ties, tt)))))
