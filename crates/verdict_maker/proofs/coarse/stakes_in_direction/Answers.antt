use Rattle.std.proofs.Common.{◌≡◌, false, true, List, subst}
use Rattle.scan_types.specs.declared.offer.Offer.{Offer}
use Rattle.finding_definitions.specs.Arbitrage.{IsArbitrage}
use Rattle.judging_definitions.specs.Stakes.{AreScaledFloors}
use Rattle.judging_definitions.proofs.OneReading.{scaled_floors_one}
use Rattle.verdict_maker.proofs.coarse.stakes_in_direction.Goals as goal

pub returns : goal.returns
returns c finding found =
    let offers = c.args.sheet.now in
    let direction = c.args.direction.now in
    let stakes = c.in_ok-stakes.stakes in
    let are = subst (λ (os : List Offer). AreScaledFloors os direction stakes) c.offers.ensures.value c.in_ok-stakes.ensures in
    let same : found.stakes ≡ stakes = scaled_floors_one offers direction found.stakes stakes found.are_scaled are in
    let x : false ≡ true = c.if-says_yes.ensures.1 (subst (IsArbitrage offers) same found.arbitrage) in
    absurd (cc)
