use Rattle.std.proofs.Common.{◌≡◌, ◌++◌, length}
use Rattle.std.specs.List.{flat_map, range_with_len}
use Rattle.row_definitions.specs.Rows.{entry}
use Rattle.coherence_lp.specs.ProgramTables.{row_of_class}
use Rattle.coherence_lp.proofs.rows.push_class_rows.Given as goal

abbrev pub invariant-loop-j : goal.invariant-loop-j
invariant-loop-j l = l.coefs.items ≡ l.fn.coefs.items ++ flat_map (λ j. row_of_class l.gains (length l.asked) l.count (entry l.asked j) j) (range_with_len 0 l.j)
