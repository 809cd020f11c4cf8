use Rattle.std.proofs.Common.{List, ◌++◌, ◌∷◌, [], sym, ap, ap₂, ◌∙◌, subst, arith}
use Rattle.std.proofs.lemmas.List.{length-map, take_all}
use Rattle.scan_types.specs.declared.offer.Offer.{Offer}
use Rattle.scan_types.specs.Sheets.{IsSheet, Fits}
use Rattle.judging_definitions.specs.CoarseOdds.{at_odds, raised_odds, raised_offers}
use Rattle.coherence_lp.proofs.CoarseSheets.{raised_fits, raised_more}
use Rattle.coherence_lp.proofs.coarse.coarse_up.Goals as goal

pub push-requires : goal.push-requires
push-requires c =
    let offers = c.offers-offers.result.now in
    let o = c.index-offers-i.result in
    let sheet = subst IsSheet (sym c.offers-offers.ensures.value) c.offers-offers.ensures.rising in
    subst (Fits c.loop-i.raised) (sym c.raised_offer.ensures) (raised_fits offers c.loop-i.i o c.loop-i.raised sheet c.loop-i-test.true c.index-offers-i.is c.loop-i.invariant)

pub loop-i-preserved : goal.loop-i-preserved
loop-i-preserved c =
    let offers = c.offers-offers.result.now in
    let o = c.index-offers-i.result in
    c.in_ok-push.ensures.ok
    ∙ ap₂ (λ (xs : List Offer) x. xs ++ x ∷ []) c.loop-i.invariant c.raised_offer.ensures
    ∙ sym (raised_more offers c.loop-i.i o c.loop-i-test.true c.index-offers-i.is)

pub returns : goal.returns
returns c =
    let offers = c.offers-offers.result.now in
    let raised : Offer → Offer = λ offer. at_odds offer (raised_odds offer.odds) in
    c.loop-i.invariant ∙ take_all c.loop-i.i (raised_offers offers) (omega (arith, c.loop-i-test.false, length-map offers raised)) ∙ ap raised_offers c.offers-offers.ensures.value
