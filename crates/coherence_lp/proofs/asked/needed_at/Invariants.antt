use Rattle.std.proofs.Common.{◌≡◌, map, take}
use Rattle.finding_definitions.specs.Arbitrage.{need}
use Rattle.coherence_lp.proofs.asked.needed_at.Given as goal

abbrev pub invariant-loop-j : goal.invariant-loop-j
invariant-loop-j l = l.asked.items ≡ map need (take l.j l.classes)
