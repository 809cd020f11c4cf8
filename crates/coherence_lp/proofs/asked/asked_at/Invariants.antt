use Rattle.std.proofs.Common.{◌≡◌, map, take}
use Rattle.coherence_lp.specs.Asked.{asked_for}
use Rattle.coherence_lp.proofs.asked.asked_at.Given as goal

abbrev pub invariant-loop-j : goal.invariant-loop-j
invariant-loop-j l = l.asked.items ≡ map (asked_for l.needs l.offers) (take l.j l.classes)
