use Rattle.std.proofs.Common.{◌≡◌, ◌≤◌, ◌++◌, replicate}
use Rattle.fraction_tableau.proofs.rows.push_zeros.Given as goal

abbrev pub invariant-loop : goal.invariant-loop
invariant-loop l = (l.bits.items ≡ l.initial.bits.items ++ replicate l.counter 0) × (l.initial.bits.cap ≤ l.bits.cap)
