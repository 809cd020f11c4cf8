use Rattle.std.proofs.Common.{◌≡◌, ◌*◌, pos, ◌≤ℤ◌, take}
use Rattle.scan_types.specs.declared.limits.TheConstants.{MOST_PART}
use Rattle.finding_definitions.specs.Measure.{final_weight}
use Rattle.cert_checker.proofs.means.need_of_unit.Given as goal

abbrev pub invariant-loop-entry : goal.invariant-loop-entry
invariant-loop-entry l =
    (l.sum ≡ final_weight (take l.entry-index l.entries)) × (pos 0 ≤ℤ l.sum) × (l.sum ≤ℤ pos (l.entry-index * MOST_PART))
