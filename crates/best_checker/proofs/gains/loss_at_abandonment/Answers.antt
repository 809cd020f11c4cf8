use Rattle.std.proofs.Common.{◌≡◌, ◌≤◌, length, arith}
use Rattle.settlement_definitions.specs.StandIns.{stand_ins}
use Rattle.settlement_laws.proofs.Table.{length-stand_ins}
use Rattle.best_checker.proofs.gains.loss_at_abandonment.Goals as goal

pub returns : goal.returns
returns c j d below =
    let all : length stand_ins ≡ 98 = length-stand_ins in
    let end : 98 ≤ c.loop-k.k = c.loop-k-test.false in
    c.loop-k.invariant j d (omega arith)
