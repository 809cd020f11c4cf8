use Rattle.std.proofs.Common.{◌≡◌, ◌≤ℤ◌, ap, sym, ◌∙◌, arith, subst, get_or}
use Rattle.std.specs.Prelude.{pos, ◌<ℤ◌, slice_get, Some}
use Rattle.std.proofs.lemmas.Int.{ints}
use Rattle.std.proofs.lemmas.Option.{slice_get-get_or}
use Rattle.finding_definitions.specs.Measure.{mean}
use Rattle.cert_checker.specs.Gains.{GainsNothing}
use Rattle.cert_checker.proofs.Searches.{first_failure}
use Rattle.cert_checker.proofs.means.gaining_offer.Goals as goal

pub returns-then-gained-gt0 : goal.returns-then-gained-gt0
returns-then-gained-gt0 c =
    let offers = c.args.offers.now in
    let offer = c.index-offers-i.result in
    let exact = c.mean-gained.ensures.exact in
    let gains : pos 0 <ℤ mean c.args.entries.now offer = subst (λ z. pos 0 <ℤ z) exact (omega (arith, ints)) in
    let at : slice_get offers c.loop-i.i ≡ Some offer = slice_get-get_or offers c.loop-i.i offer c.loop-i-test.true ∙ ap (λ o. Some o) (sym c.index-offers-i.is) in
    let fails : mean c.args.entries.now (get_or offers c.loop-i.i offer) ≤ℤ pos 0 → ⊥ = λ h.
    let here : mean c.args.entries.now offer ≤ℤ pos 0 = subst (λ o. mean c.args.entries.now o ≤ℤ pos 0) (sym c.index-offers-i.is) h in
    omega (arith, ints, here, gains) in
    (first_failure (GainsNothing c.args.entries.now) offers c.loop-i.i offer c.loop-i-test.true c.loop-i.invariant fails, offer, at, omega (arith, ints, exact))
