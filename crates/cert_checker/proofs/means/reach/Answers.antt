use Rattle.std.proofs.Common.{◌≡◌, ◌+◌, ◌+ℤ◌, ◌*ℤ◌, pos, take, ap, sym, refl, ◌∙◌, arith}
use Rattle.std.specs.Int.{int_max}
use Rattle.std.proofs.lemmas.Int.{ints}
use Rattle.finding_definitions.specs.Measure.{mean}
use Rattle.finding_definitions.specs.Verdicts.{reach as reach_of}
use Rattle.cert_checker.proofs.Prefixes.{sum-take_more}
use Rattle.cert_checker.proofs.means.reach.Goals as goal

pub loop-offer-preserved : goal.loop-offer-preserved
loop-offer-preserved c =
    let offers = c.args.offers.now in
    let entries = c.args.entries.now in
    let i = c.loop-offer.offer-index in
    let offer = c.offer-item.result in
    let before = c.loop-offer.invariant.0 in
    let step : reach_of (take (i + 1) offers) entries ≡ reach_of (take i offers) entries +ℤ c.most_gain-sum.result =
    sum-take_more (λ os. reach_of os entries) (λ o. pos o.limit *ℤ int_max (pos 0) (mean entries o)) refl (λ x xs. refl) offers i offer c.loop-offer-test.true ∙ ap (λ o. reach_of (take i offers) entries +ℤ pos o.limit *ℤ int_max (pos 0) (mean entries o)) (sym c.offer-item.is) ∙ ap (λ z. reach_of (take i offers) entries +ℤ z) (sym c.most_gain-sum.ensures.exact) in
    (omega (arith, ints, step, before), omega (arith, ints), omega (arith, ints))
