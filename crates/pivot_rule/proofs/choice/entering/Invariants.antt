use Rattle.std.proofs.Common.{ℕ, ◌<◌}
use lib.IntN.{pos}
use lib.Signed.{◌≤ℤ◌}
use Rattle.pivot_definitions.specs.Tableaus.{objective}
use Rattle.pivot_rule.proofs.choice.entering.Given as goal

abbrev pub invariant-loop-column : goal.invariant-loop-column
invariant-loop-column l = (lower : ℕ) → lower < l.column → objective l.tableau lower ≤ℤ pos 0
