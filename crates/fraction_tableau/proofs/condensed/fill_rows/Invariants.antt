use Rattle.std.proofs.Common.{◌≡◌, ◌+◌, ◌-◌, ◌++◌, map, replicate}
use Rattle.std.specs.List.{range_with_len}
use Rattle.row_pool.specs.Pools.{zeros}
use Rattle.condensed_laws.specs.Tableaus.{condensed_built_row}
use Rattle.fraction_tableau.proofs.condensed.fill_rows.Given as goal

abbrev pub invariant-loop-row : goal.invariant-loop-row
invariant-loop-row l = l.rows ≡ map (condensed_built_row l.program) (range_with_len 0 l.row) ++ replicate (l.program.rows + 1 - l.row) (zeros (l.program.columns + 3))
