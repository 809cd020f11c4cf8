use Rattle.std.proofs.Common.{◌≡◌, ◌++◌, suc}
use Rattle.std.specs.List.{flat_map, range_with_len}
use Rattle.pivot_definitions.specs.Programs.{unit_row}
use Rattle.coherence_lp.proofs.rows.push_limit_rows.Given as goal

abbrev pub invariant-loop-i : goal.invariant-loop-i
invariant-loop-i l = l.coefs.items ≡ l.fn.coefs.items ++ flat_map (λ column. unit_row (suc l.count) column) (range_with_len 1 l.i)
