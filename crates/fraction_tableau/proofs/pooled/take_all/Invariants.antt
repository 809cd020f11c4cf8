use Rattle.std.proofs.Common.{◌≡◌, ◌≤◌, ◌-◌, ◌++◌, length, replicate}
use Rattle.std.specs.Prelude.{Some, None}
use Rattle.row_pool.specs.Pools.{zeros}
use Rattle.fraction_tableau.specs.Rows.{AreIds}
use Rattle.fraction_tableau.proofs.pooled.take_all.Given as goal

abbrev pub invariant-loop : goal.invariant-loop
invariant-loop l =
    (l.pool.width ≡ l.initial.pool.width)
    × (l.pool.rows ≡ replicate l.counter (Some (zeros l.initial.pool.width)) ++ replicate (l.initial.count - l.counter) None)
    × AreIds l.pool l.ids.items
    × (length l.ids.items ≡ l.counter)
    × (l.initial.ids.cap ≤ l.ids.cap)
