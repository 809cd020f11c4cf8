use Rattle.std.proofs.Common.{◌≡◌, ◌≤◌, ◌+◌, ◌*◌, take}
use Rattle.judging_definitions.specs.MostProgram.{above_all_wins}
use Rattle.coherence_lp.proofs.asked.above_all_wins.Given as goal

abbrev pub invariant-loop-i : goal.invariant-loop-i
invariant-loop-i l = record {
  sum : l.total ≡ above_all_wins (take l.i l.offers);
  small : l.total ≤ 1 + l.i * 100000000000;
}
