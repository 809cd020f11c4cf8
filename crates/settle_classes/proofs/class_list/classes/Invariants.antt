use Rattle.std.proofs.Common.{◌≡◌, map, take}
use Rattle.settlement_definitions.specs.StandIns.{stand_ins}
use Rattle.settlement_definitions.specs.Classes.{settle_alike, distinct_by}
use Rattle.settle_classes.specs.Rows.{parts_of, settlement_of}
use Rattle.settle_classes.proofs.class_list.classes.Given as goal

abbrev pub invariant-loop-k : goal.invariant-loop-k
invariant-loop-k l =
    (l.outcomes.items ≡ distinct_by (settle_alike l.bets.items) (take l.k stand_ins)) × (map parts_of l.rows.items ≡ map (settlement_of l.bets.items) l.outcomes.items)
