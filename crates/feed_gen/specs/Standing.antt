-- What stands in a feed that is being made, as flags.
use Rattle.std.specs.Prelude.{ℕ, ◌≡◌, ◌<◌, ◌+◌, ◌*◌, Bool, List, length, Some, slice_get}
use Rattle.feed_gen.specs.declared.limits.TheConstants.{CHOICES, FLAGS, MOST_MADE_MATCHES}
use Rattle.feed_gen.specs.declared.made_line.MadeLine.{MadeLine}
use Rattle.feed_gen.specs.Generated.{stands}

-- one flag for each selection of each match, seven a match: whether it stands after these lines
pub record IsStanding (flags : List Bool) (earlier : List MadeLine) : Type 0 where
  pub each : length flags ≡ FLAGS
  pub told : (match_number choice : ℕ) → match_number < MOST_MADE_MATCHES → choice < CHOICES → slice_get flags (CHOICES * match_number + choice) ≡ Some (stands earlier match_number choice)
