use Rattle.std.specs.Prelude.{◌≤◌}
use Rattle.scan_types.specs.declared.outcome.Outcome.{Outcome}
use Rattle.scan_types.specs.declared.outcome.Outcome.TheVariants.{Full, Abandoned}
use Rattle.scan_types.specs.declared.limits.TheConstants.{MOST_SCORE}

-- the goals of each side are at most MOST_SCORE
abbrev pub HasScoresInRange : Outcome → Type 0
HasScoresInRange (Full h a) = (h ≤ MOST_SCORE) × (a ≤ MOST_SCORE)
HasScoresInRange (Abandoned h a) = (h ≤ MOST_SCORE) × (a ≤ MOST_SCORE)
