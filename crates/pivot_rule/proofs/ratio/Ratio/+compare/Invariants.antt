use Rattle.std.proofs.Common.{◌+◌}
use Rattle.pivot_rule.proofs.ratio.Ratio.+compare.Given as goal

abbrev pub decreases-compare : goal.decreases-compare
decreases-compare l = l.self.denominator + l.other.denominator
