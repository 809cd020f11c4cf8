use Rattle.std.proofs.Common.{ℕ, ◌<◌}
use Rattle.row_definitions.specs.Combination.{FitsAt}
use Rattle.fraction_rows.proofs.plain.plain_passing.Given as goal

abbrev pub invariant-loop-column : goal.invariant-loop-column
invariant-loop-column l = (before : ℕ) → before < l.column → FitsAt l.target l.pivot l.at before
