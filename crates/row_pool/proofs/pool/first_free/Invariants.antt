use Rattle.row_pool.specs.Pools.{AreMarked}
use Rattle.row_pool.proofs.pool.first_free.Given as goal

abbrev pub invariant-loop-row : goal.invariant-loop-row
invariant-loop-row l = AreMarked l.out l.row
