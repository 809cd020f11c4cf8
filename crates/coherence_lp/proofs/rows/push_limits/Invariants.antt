use Rattle.std.proofs.Common.{◌≡◌, ◌++◌, ◌*◌, map, take, zip}
use Rattle.std.specs.Prelude.{pos}
use Rattle.coherence_lp.proofs.rows.push_limits.Given as goal

abbrev pub invariant-loop-i : goal.invariant-loop-i
invariant-loop-i l = l.right.items ≡ l.fn.right.items ++ map (λ e. pos (e.0.limit * e.1)) (take l.i (zip l.offers l.divisors))
