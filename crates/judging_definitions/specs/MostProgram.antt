-- What the program for the best stakes asks for: more than any stakes within the limits can win, so that its level stays below 1.
use Rattle.std.specs.Prelude.{ℕ, ℤ, pos, ◌+◌, ◌-◌, ◌*◌, ◌*ℤ◌, List, sum_by}
use Rattle.std.specs.Int.{div_ceil}
use Rattle.scan_types.specs.declared.offer.Offer.{Offer}
use Rattle.scan_types.specs.declared.outcome.Outcome.{Outcome}
use Rattle.finding_definitions.specs.Arbitrage.{need}

-- what the limit of an offer wins at its odds, in minor units, rounded up
abbrev pub most_win : Offer → ℕ
most_win offer = div_ceil (offer.limit * (offer.odds.thousandths - 1000)) 1000

-- one minor unit more than the limits of all offers win together
abbrev pub above_all_wins : List Offer → ℕ
above_all_wins offers = 1 + sum_by most_win offers

-- so much at each final score, in 1/2000 of a minor unit
abbrev pub most_need : List Offer → Outcome → ℤ
most_need offers x = pos (2000 * above_all_wins offers) *ℤ need x
