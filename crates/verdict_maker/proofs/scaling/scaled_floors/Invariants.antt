use Rattle.std.proofs.Common.{◌≡◌, ◌*◌, ◌/◌, map, take}
use Rattle.verdict_maker.proofs.scaling.scaled_floors.Given as goal

abbrev pub invariant-loop-k : goal.invariant-loop-k
invariant-loop-k l = l.stakes.items ≡ map (λ other. l.least.limit * other / l.least.item) (take l.k l.items)
