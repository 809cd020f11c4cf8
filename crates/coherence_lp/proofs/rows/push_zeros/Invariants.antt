use Rattle.std.proofs.Common.{◌≡◌, ◌++◌, replicate}
use lib.IntN.{pos}
use Rattle.coherence_lp.proofs.rows.push_zeros.Given as goal

abbrev pub invariant-loop : goal.invariant-loop
invariant-loop l = l.numbers.items ≡ l.initial.numbers.items ++ replicate l.counter (pos 0)
