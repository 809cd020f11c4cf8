use Rattle.std.proofs.Common.{◌≡◌, map, take}
use Rattle.std.specs.List.{flat_map}
use Rattle.settlement_definitions.specs.Gain.{gain}
use Rattle.coherence_lp.proofs.gains.gain_table.Given as goal

abbrev pub invariant-loop-i : goal.invariant-loop-i
invariant-loop-i l = l.gains.items ≡ flat_map (λ offer. map (gain offer) l.classes) (take l.i l.offers)
