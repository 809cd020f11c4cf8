use Rattle.std.proofs.Common.{◌≡◌, take}
use Rattle.settlement_definitions.specs.Classes.{distinct_by}
use Rattle.settle_classes.specs.Bets.{same_bet}
use Rattle.settle_classes.proofs.bets.bets.Given as goal

abbrev pub invariant-loop-offer : goal.invariant-loop-offer
invariant-loop-offer l = l.bets.items ≡ distinct_by same_bet (take l.offer-index l.offers)
