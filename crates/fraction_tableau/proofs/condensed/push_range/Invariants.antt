use Rattle.std.proofs.Common.{◌≡◌, ◌≤◌, ◌++◌}
use Rattle.std.specs.List.{range_with_len}
use Rattle.fraction_tableau.proofs.condensed.push_range.Given as goal

abbrev pub invariant-loop-more : goal.invariant-loop-more
invariant-loop-more l = (l.numbers.items ≡ l.initial.numbers.items ++ range_with_len l.first l.more) × (l.initial.numbers.cap ≤ l.numbers.cap)
