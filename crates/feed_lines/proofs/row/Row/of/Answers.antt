use Rattle.std.proofs.Common.{arith, sym}
use Rattle.scan_types.specs.declared.limits.TheConstants.{MOST_SELECTIONS}
use Rattle.feed_lines.proofs.Rows.{count_one}
use Rattle.feed_lines.proofs.row.Row.of.Goals as goal

pub invariant_of-result : goal.invariant_of-result
invariant_of-result c = sym (count_one MOST_SELECTIONS c.from.result (omega (arith, c.from.ensures, c.requires)))
