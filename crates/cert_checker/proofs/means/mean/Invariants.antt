use Rattle.std.proofs.Common.{◌≡◌, ◌*◌, ◌^◌, pos, neg_ℤ, ◌≤ℤ◌, take}
use Rattle.finding_definitions.specs.Measure.{mean as mean_of}
use Rattle.cert_checker.proofs.means.mean.Given as goal

abbrev pub invariant-loop-entry : goal.invariant-loop-entry
invariant-loop-entry l =
    (l.sum ≡ mean_of (take l.entry-index l.entries) l.offer) × (neg_ℤ (pos (l.entry-index * 2 ^ 81)) ≤ℤ l.sum) × (l.sum ≤ℤ pos (l.entry-index * 2 ^ 81))
