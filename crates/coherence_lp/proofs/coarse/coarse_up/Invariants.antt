use Rattle.std.proofs.Common.{◌≡◌, take}
use Rattle.judging_definitions.specs.CoarseOdds.{raised_offers}
use Rattle.coherence_lp.proofs.coarse.coarse_up.Given as goal

abbrev pub invariant-loop-i : goal.invariant-loop-i
invariant-loop-i l = l.raised ≡ take l.i (raised_offers l.offers)
