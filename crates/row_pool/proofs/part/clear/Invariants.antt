use Rattle.std.proofs.Common.{◌≡◌, ◌++◌, replicate, drop}
use lib.IntN.{pos}
use Rattle.row_pool.proofs.part.clear.Given as goal

abbrev pub invariant-loop-column : goal.invariant-loop-column
invariant-loop-column l = l.row ≡ replicate l.column (pos 0) ++ drop l.column l.initial.row
