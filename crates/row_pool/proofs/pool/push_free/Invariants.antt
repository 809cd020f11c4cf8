use Rattle.std.proofs.Common.{◌≡◌, ◌≤◌, ◌++◌, replicate, false}
use Rattle.row_pool.proofs.pool.push_free.Given as goal

abbrev pub invariant-loop : goal.invariant-loop
invariant-loop l = (l.out.items ≡ l.initial.out.items ++ replicate l.counter false) × (l.initial.out.cap ≤ l.out.cap)
