use Rattle.std.proofs.Common.{◌≡◌, ◌+◌, ◌<◌, ◌+ℤ◌, ◌*ℤ◌, pos, length, get_or, take, ap, sym, ◌∙◌, arith}
use Rattle.std.proofs.lemmas.Int.{ints}
use Rattle.settlement_definitions.specs.Gain.{gain}
use Rattle.finding_definitions.specs.Arbitrage.{total_gain as total_of}
use Rattle.cert_checker.proofs.Prefixes.{sum_over-take_more}
use Rattle.cert_checker.proofs.outcomes.total_gain.Goals as goal

pub loop-i-preserved : goal.loop-i-preserved
loop-i-preserved c =
    let offers = c.args.offers.now in
    let numbers = c.args.parts.now in
    let i = c.loop-i.i in
    let offer = c.index-offers-i.result in
    let before = c.loop-i.invariant.0 in
    let low : i < length numbers = omega (arith, c.requires.count, c.loop-i-test.true) in
    let more = sum_over-take_more (λ offer n. pos n *ℤ gain offer c.args.outcome) offers numbers i offer c.loop-i-test.true low in
    let step : total_of (take (i + 1) offers) (take (i + 1) numbers) c.args.outcome ≡ total_of (take i offers) (take i numbers) c.args.outcome +ℤ c.weighed_gain-won.result =
    more ∙ ap (λ o. total_of (take i offers) (take i numbers) c.args.outcome +ℤ pos (get_or numbers i 0) *ℤ gain o c.args.outcome) (sym c.index-offers-i.is) ∙ ap (λ z. total_of (take i offers) (take i numbers) c.args.outcome +ℤ z) (sym c.weighed_gain-won.ensures.exact) in
    (omega (arith, ints, step, before), omega (arith, ints), omega (arith, ints))
