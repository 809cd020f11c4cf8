use Rattle.std.proofs.Common.{◌≡◌, ◌++◌, take}
use Rattle.solver_workers.proofs.sheets.push_each.Given as goal

abbrev pub invariant-loop-k : goal.invariant-loop-k
invariant-loop-k l = l.sheet ≡ l.fn.sheet ++ take l.k l.more
