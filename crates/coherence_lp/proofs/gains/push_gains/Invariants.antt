use Rattle.std.proofs.Common.{◌≡◌, ◌++◌, map, take}
use Rattle.settlement_definitions.specs.Gain.{gain}
use Rattle.coherence_lp.proofs.gains.push_gains.Given as goal

abbrev pub invariant-loop-j : goal.invariant-loop-j
invariant-loop-j l = l.gains.items ≡ l.fn.gains.items ++ map (gain l.offer) (take l.j l.classes)
