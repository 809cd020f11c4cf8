use Rattle.std.proofs.Common.{◌≤◌, take}
use Rattle.judging_definitions.specs.Stakes.{fractional_stakes}
use Rattle.coherence_lp.specs.Ratios.{IsWholeBy}
use Rattle.coherence_lp.proofs.StakeLists.{LowestForms, SmallBefore}
use Rattle.coherence_lp.proofs.common_stakes.common_stakes.Given as goal

abbrev pub invariant-loop-i : goal.invariant-loop-i
invariant-loop-i l =
    let stakes = fractional_stakes l.outcomes l.offers l.numbers l.tableau in
    record {
      lowest : LowestForms (take l.i stakes) l.ratios.items;
      common : IsWholeBy (take l.i stakes) l.denominator;
      small : l.denominator ≤ l.most;
      others : SmallBefore l.most stakes l.i;
    }
