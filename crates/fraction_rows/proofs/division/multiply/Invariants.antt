use Rattle.std.proofs.Common.{◌≡◌, ◌*ℤ◌, map}
use Rattle.fraction_rows.proofs.Written.{written}
use Rattle.fraction_rows.proofs.division.multiply.Given as goal

abbrev pub invariant-loop-x : goal.invariant-loop-x
invariant-loop-x l = l.row ≡ written (map (λ x. x *ℤ l.factor) l.fn.row) l.fn.row l.x-index
