-- What stands of a feed, as rows: one for each match, by its name, with one place for each selection, by its number.
use Rattle.std.specs.Prelude.{ℕ, ◌≡◌, ◌<◌, ◌≤◌, Bool, false, ◌||◌, nat_lt, List, length, get_or, replicate, count_by, Option, Some, None, is_some, IfSome, if◌then◌else◌}
use Rattle.scan_types.specs.declared.limits.TheConstants.{MOST_MATCHES, MOST_SELECTIONS, MOST_STANDING}
use Rattle.feed_definitions.specs.declared.accepted.Accepted.{Accepted}
use Rattle.feed_definitions.specs.declared.accepted.Change.{Change}
use Rattle.feed_definitions.specs.declared.accepted.Change.TheVariants.{Quote, Withdraw}
use Rattle.feed_definitions.specs.declared.cause.Cause.{Cause}
use Rattle.feed_definitions.specs.declared.cause.Cause.TheVariants.{TooManyMatches, TooManyOffers, NotQuoted}
use Rattle.feed_definitions.specs.Standing.{matches_of, is_known, stands}

-- whether the selection of this number stands, by the row of its match
abbrev pub stands_in : Option (List Bool) → ℕ → Bool
stands_in None number = false
stands_in (Some row) number = get_or row number false

-- the row, and one in which nothing stands if there is none
abbrev pub row_or_empty : Option (List Bool) → List Bool
row_or_empty None = replicate MOST_SELECTIONS false
row_or_empty (Some row) = row

-- the rows, so many of them, say what the accepted lines leave standing
pub record IsStanding (row_of : List ℕ → Option (List Bool)) (rows : ℕ) (lines : List Accepted) : Type 0 where
  pub known : (name : List ℕ) → is_some (row_of name) ≡ is_known lines name
  pub count : rows ≡ length (matches_of lines)
  pub few : rows ≤ MOST_MATCHES
  pub stand : (name : List ℕ) (number : ℕ) → number < MOST_SELECTIONS → stands_in (row_of name) number ≡ stands lines name number
  pub sizes : (name : List ℕ) → IfSome (row_of name) (λ row. length row ≡ MOST_SELECTIONS)

-- why a quote is refused, if it is, by the row of its match and the number of rows
abbrev pub quote_refused_by : Option (List Bool) → ℕ → ℕ → Option Cause
quote_refused_by None rows number = if nat_lt rows MOST_MATCHES then None else Some TooManyMatches
quote_refused_by (Some row) rows number =
    if get_or row number false || nat_lt (count_by (λ stands. stands) row) MOST_STANDING then None else Some TooManyOffers

-- why a withdrawal is refused, if it is, by the row of its match
abbrev pub withdrawal_refused_by : Option (List Bool) → ℕ → Option Cause
withdrawal_refused_by row number = if stands_in row number then None else Some NotQuoted

abbrev pub refused_by : Option (List Bool) → ℕ → ℕ → Change → Option Cause
refused_by row rows number (Quote odds limit) = quote_refused_by row rows number
refused_by row rows number Withdraw = withdrawal_refused_by row number
