use Rattle.std.proofs.Common.{◌≡◌, take}
use Rattle.judging_definitions.specs.Stakes.{fractional_stakes, all_numbers, floors}
use Rattle.coherence_lp.proofs.floors.read_floors.Given as goal

abbrev pub invariant-loop-i : goal.invariant-loop-i
invariant-loop-i l = l.stakes.items ≡ take l.i (floors (fractional_stakes l.outcomes l.offers (all_numbers l.offers) l.tableau))
