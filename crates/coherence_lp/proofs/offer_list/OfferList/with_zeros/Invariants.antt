use Rattle.std.proofs.Common.{◌≡◌}
use Rattle.judging_definitions.specs.CoarseOdds.{with_zeros}
use Rattle.coherence_lp.proofs.offer_list.OfferList.with_zeros.Given as goal

abbrev pub invariant-loop-i : goal.invariant-loop-i
invariant-loop-i l = l.all.items ≡ with_zeros l.self l.items l.i
