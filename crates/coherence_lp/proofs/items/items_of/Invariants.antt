use Rattle.std.proofs.Common.{◌≡◌, map, take}
use Rattle.scan_types.specs.declared.limits.TheConstants.{MOST_PART}
use Rattle.coherence_lp.specs.Ratios.{item_of}
use Rattle.coherence_lp.proofs.ClassWeights.{NoneAboveBefore}
use Rattle.coherence_lp.proofs.items.items_of.Given as goal

abbrev pub invariant-loop-i : goal.invariant-loop-i
invariant-loop-i l = record {
  items : l.items.items ≡ take l.i (map (item_of l.stakes.denominator l.divisor) l.ratios);
  none : NoneAboveBefore MOST_PART (map (item_of l.stakes.denominator l.divisor) l.ratios) l.i;
}
