use Rattle.std.proofs.Common.{◌≡◌, ◌≤◌, length, arith}
use Rattle.settlement_definitions.specs.StandIns.{stand_ins}
use Rattle.settlement_laws.proofs.Table.{length-stand_ins}
use Rattle.cert_checker.proofs.outcomes.loss_of_stakes.Goals as goal

pub returns : goal.returns
returns c j d below =
    let all : length stand_ins ≡ 98 = length-stand_ins in
    let end : 98 ≤ c.loop-k.k = c.loop-k-test.false in
    c.loop-k.invariant j d (omega arith)
