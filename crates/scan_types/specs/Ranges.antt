use Rattle.std.specs.Prelude.{ℕ, ℤ, pos, negsuc, ◌<◌, ◌≤◌, ◌≤ℤ◌}
use Rattle.scan_types.specs.declared.limits.TheConstants.{MOST_LIMIT, LEAST_ODDS, MOST_ODDS, MOST_FEEDS}

-- odds from 1.001 to 1000.000, in thousandths
abbrev pub IsOddsRange : ℕ → Type 0
IsOddsRange n = (LEAST_ODDS ≤ n) × (n ≤ MOST_ODDS)

-- a handicap line from -5.00 to 5.00, in quarters of a goal
abbrev pub IsHandicapRange : ℤ → Type 0
IsHandicapRange q = (negsuc 19 ≤ℤ q) × (q ≤ℤ pos 20)

-- a total line from 0.50 to 7.50, in quarters of a goal
abbrev pub IsTotalRange : ℤ → Type 0
IsTotalRange q = (pos 2 ≤ℤ q) × (q ≤ℤ pos 30)

-- a stake limit from 1 to 100,000,000 minor units
abbrev pub IsLimitRange : ℕ → Type 0
IsLimitRange n = (1 ≤ n) × (n ≤ MOST_LIMIT)

-- the number of a feed, counted from 0
abbrev pub IsFeedNumber : ℕ → Type 0
IsFeedNumber n = n < MOST_FEEDS
