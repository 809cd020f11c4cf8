use Rattle.std.proofs.Common.{◌≡◌, ℕ, false, true, List, inr, subst₂}
use Rattle.std.proofs.lemmas.Result.{IfOk-weaker}
use Rattle.scan_types.specs.declared.offer.Offer.{Offer}
use Rattle.judging_definitions.specs.Stakes.{AreScaledFloors}
use Rattle.verdict_maker.proofs.judging.found_in_direction.Goals as goal

pub returns : goal.returns
returns c =
    let stakes = c.in_ok-stakes.stakes in
    let are = subst₂ (λ (os : List Offer) (ds : List ℕ). AreScaledFloors os ds stakes) c.offers.ensures.value c.items.ensures c.in_ok-stakes.ensures in
    IfOk-weaker c.found_by_slack_run.result _ _ (λ finding found. (stakes, are, inr ((λ w. let x : false ≡ true = c.if-says_yes.ensures.1 w in cc), found))) c.found_by_slack_run.ensures
