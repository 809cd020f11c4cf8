use Rattle.std.proofs.Common.{◌≤◌}
use Rattle.scan_types.specs.declared.limits.TheConstants.{MOST_MEASURE_ENTRIES}
use Rattle.cert_checker.specs.Shapes.{IsEntry}
use Rattle.cert_checker.proofs.Searches.{HoldBefore}
use Rattle.cert_checker.proofs.shape.unfit_entry.Given as goal

abbrev pub invariant-loop-k : goal.invariant-loop-k
invariant-loop-k l = HoldBefore (IsEntry l.entries) l.entries l.k × (l.k ≤ MOST_MEASURE_ENTRIES)
