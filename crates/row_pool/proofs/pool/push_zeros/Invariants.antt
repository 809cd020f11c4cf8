use Rattle.std.proofs.Common.{◌≡◌, ◌≤◌, ◌++◌, replicate}
use lib.IntN.{pos}
use Rattle.row_pool.proofs.pool.push_zeros.Given as goal

abbrev pub invariant-loop : goal.invariant-loop
invariant-loop l = (l.block.items ≡ l.initial.block.items ++ replicate l.counter (pos 0)) × (l.initial.block.cap ≤ l.block.cap)
