use Rattle.std.proofs.Common.{◌≡◌, ℕ, ◌≤◌, length, sym, subst}
use Rattle.std.specs.Prelude.{None}
use Rattle.row_pool.specs.Pools.{Pool, row_at}
use Rattle.fraction_tableau.specs.Rows.{AreIds}
use Rattle.fraction_tableau.proofs.PoolRows.{given_back}
use Rattle.fraction_tableau.proofs.pooled.give_all.Goals as goal

pub loop-id-preserved : goal.loop-id-preserved
loop-id-preserved c =
    subst (λ (p : Pool). AreIds p c.pop.new.self.items × ((row : ℕ) → length c.pop.new.self.items ≤ row → row_at p row ≡ None)) (sym c.give.ensures)
    (given_back c.loop-id.pool c.loop-id.ids.items c.pop.new.self.items c.in-Some.id c.loop-id.invariant.0 c.in-Some.ensures.items c.loop-id.invariant.1)
