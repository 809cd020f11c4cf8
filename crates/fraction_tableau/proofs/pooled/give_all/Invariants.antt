use Rattle.std.proofs.Common.{◌≡◌, ◌≤◌, ℕ, length}
use Rattle.std.specs.Prelude.{None}
use Rattle.row_pool.specs.Pools.{row_at}
use Rattle.fraction_tableau.specs.Rows.{AreIds}
use Rattle.fraction_tableau.proofs.pooled.give_all.Given as goal

abbrev pub invariant-loop-id : goal.invariant-loop-id
invariant-loop-id l = AreIds l.pool l.ids.items × ((row : ℕ) → length l.ids.items ≤ row → row_at l.pool row ≡ None)

abbrev pub decreases-loop-id : goal.decreases-loop-id
decreases-loop-id l = length l.ids.items
