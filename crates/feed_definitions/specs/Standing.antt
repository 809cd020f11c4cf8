-- What the accepted lines of a feed leave standing, and which requests it refuses.
use Rattle.std.specs.Prelude.{ℕ, Bool, true, false, not, ◌==◌, ◌&&◌, ◌||◌, nat_lt, List, [], ◌∷◌, length, map, filter, reverse, find, count_by, Option, Some, None, if◌then◌else◌}
use Rattle.std.specs.List.{list_any, range_with_len}
use Rattle.std.specs.Str.{bytes_eq}
use Rattle.scan_types.specs.declared.limits.TheConstants.{MOST_MATCHES, MOST_STANDING, MOST_SELECTIONS}
use Rattle.scan_types.specs.Selections.{selection_number}
use Rattle.feed_definitions.specs.declared.accepted.Accepted.{Accepted}
use Rattle.feed_definitions.specs.declared.accepted.Change.{Change}
use Rattle.feed_definitions.specs.declared.accepted.Change.TheVariants.{Quote, Withdraw}
use Rattle.feed_definitions.specs.declared.cause.Cause.{Cause}
use Rattle.feed_definitions.specs.declared.cause.Cause.TheVariants.{TooManyMatches, TooManyOffers, NotQuoted}

abbrev pub is_quote : Change → Bool
is_quote (Quote odds limit) = true
is_quote Withdraw = false

-- each list once, where it first stands
abbrev pub each_once : List (List ℕ) → List (List ℕ)
each_once [] = []
each_once (name ∷ names) = name ∷ filter (λ other. not (bytes_eq other name)) (each_once names)

-- the matches that quotes among these lines name, each once, in the order of their first quotes; a withdrawal takes none away
abbrev pub matches_of : List Accepted → List (List ℕ)
matches_of lines = each_once (map (λ line. line.match_name) (filter (λ line. is_quote line.change) lines))

-- one of these lines quotes the match
abbrev pub is_known : List Accepted → List ℕ → Bool
is_known lines match_name = list_any (λ name. bytes_eq name match_name) (matches_of lines)

-- the line is about the selection of this number on this match
abbrev pub is_about : List ℕ → ℕ → Accepted → Bool
is_about match_name number line = bytes_eq line.match_name match_name && (selection_number line.selection == number)

abbrev pub is_quoted_by : Option Accepted → Bool
is_quoted_by None = false
is_quoted_by (Some line) = is_quote line.change

-- the selection of this number stands at the match: the last line about it quotes it
abbrev pub stands : List Accepted → List ℕ → ℕ → Bool
stands lines match_name number = is_quoted_by (find (is_about match_name number) (reverse lines))

-- how many selections stand at the match
abbrev pub standing_count : List Accepted → List ℕ → ℕ
standing_count lines match_name = count_by (stands lines match_name) (range_with_len 0 MOST_SELECTIONS)

-- the match was quoted before, or fewer matches were than a feed may quote
abbrev pub has_match_room : List Accepted → List ℕ → Bool
has_match_room lines match_name = is_known lines match_name || nat_lt (length (matches_of lines)) MOST_MATCHES

-- the selection of this number stands at the match, or fewer do than may
abbrev pub has_offer_room : List Accepted → List ℕ → ℕ → Bool
has_offer_room lines match_name number =
    stands lines match_name number || nat_lt (standing_count lines match_name) MOST_STANDING

-- why a request is refused after these accepted lines, if it is
abbrev pub refused_for : List Accepted → List ℕ → ℕ → Change → Option Cause
refused_for lines match_name number (Quote odds limit) =
    if not (has_match_room lines match_name) then Some TooManyMatches
    else (if not (has_offer_room lines match_name number) then Some TooManyOffers else None)
refused_for lines match_name number Withdraw = if stands lines match_name number then None else Some NotQuoted
