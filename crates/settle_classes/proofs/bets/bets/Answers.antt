use Rattle.std.proofs.Common.{◌≡◌, ◌+◌, ◌++◌, ◌∷◌, [], take, true, false, sym, ap, ◌∙◌, add-one}
use Rattle.std.proofs.Math.Seq.{take-suc}
use Rattle.std.specs.List.{list_any}
use Rattle.settlement_definitions.specs.Classes.{distinct_by}
use Rattle.settle_classes.specs.Bets.{same_bet}
use Rattle.settle_classes.proofs.SameBets.{bets_more}
use Rattle.settle_classes.proofs.bets.bets.Goals as goal
use Rattle.settle_classes.proofs.bets.bets.Goals.{then-not-has_bet+in_ok-push, else-not-has_bet}

pub loop-offer-preserved : goal.loop-offer-preserved
loop-offer-preserved c =
    let offers = c.args.offers.now in
    let k = c.loop-offer.offer-index in
    let bets = c.loop-offer.bets.items in
    let offer = c.offer-item.result in
    let found : c.has_bet.result ≡ list_any (λ bet. same_bet bet offer) bets =
    c.has_bet.ensures ∙ ap (list_any (λ bet. same_bet bet offer)) c.deref.ensures.value in
    let more : take (k + 1) offers ≡ take k offers ++ offer ∷ [] =
    rw add-one (take-suc offers k offer c.loop-offer-test.true ∙ ap (λ o. take k offers ++ o ∷ []) (sym c.offer-item.is)) in
    elim c.if-not-has_bet.branch [
      | then-not-has_bet+in_ok-push w ↦
          ap (λ v. v.items) w.bets-is ∙ w.in_ok-push.ensures.items ∙ bets_more (take k offers) offer bets false c.loop-offer.invariant (sym found ∙ w.if-not-has_bet.true) ∙ ap (distinct_by same_bet) (sym more)
      | else-not-has_bet w ↦
          ap (λ v. v.items) w.bets-is ∙ bets_more (take k offers) offer bets true c.loop-offer.invariant (sym found ∙ w.if-not-has_bet.false) ∙ ap (distinct_by same_bet) (sym more)
    ]
