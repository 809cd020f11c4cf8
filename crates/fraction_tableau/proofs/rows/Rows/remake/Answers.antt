use Rattle.fraction_tableau.proofs.PoolRows.{all_taken}
use Rattle.fraction_tableau.proofs.rows.Rows.remake.Goals as goal

pub returns-clause-ok : goal.returns-clause-ok
returns-clause-ok c = all_taken c.take_all.new.pool c.reserve.new.self c.args.count c.args.width c.take_all.ensures.rows c.in_ok-reserve.ensures.ok
