use Rattle.std.proofs.Common.{◌≡◌, ◌+◌, ◌++◌, length}
use Rattle.desk_opening.specs.Headers.{begun_ends}
use Rattle.desk_opening.proofs.headers.listed_ends.Given as goal

abbrev pub invariant-loop-next : goal.invariant-loop-next
invariant-loop-next g l = record {
  are : begun_ends 0 l.fn.begun.items ≡ l.ends.items ++ begun_ends (length l.ends.items) l.begun.items;
  count : length l.ends.items + length l.begun.items ≡ length l.fn.begun.items;
}

abbrev pub decreases-loop-next : goal.decreases-loop-next
decreases-loop-next g l = length l.begun.items
