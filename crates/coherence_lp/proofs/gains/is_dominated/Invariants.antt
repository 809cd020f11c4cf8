use Rattle.std.proofs.Common.{◌≡◌, false, nat_lt}
use Rattle.coherence_lp.specs.Comparisons.{any_below, row_dominates, table_row}
use Rattle.coherence_lp.proofs.gains.is_dominated.Given as goal

abbrev pub invariant-loop-k : goal.invariant-loop-k
invariant-loop-k l = any_below (λ k. row_dominates (table_row l.table l.width k) (table_row l.table l.width l.i) l.width (nat_lt k l.i)) l.k ≡ false
