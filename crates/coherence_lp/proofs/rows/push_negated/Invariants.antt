use Rattle.std.proofs.Common.{◌≡◌, ◌++◌, ◌+◌, ◌*◌, map}
use Rattle.std.specs.Prelude.{neg_ℤ}
use Rattle.std.specs.List.{range_with_len}
use Rattle.row_definitions.specs.Rows.{entry}
use Rattle.coherence_lp.proofs.rows.push_negated.Given as goal

abbrev pub invariant-loop-i : goal.invariant-loop-i
invariant-loop-i l = l.coefs.items ≡ l.fn.coefs.items ++ map (λ i. neg_ℤ (entry l.gains (i * l.width + l.j))) (range_with_len 0 l.i)
