-- Coarse odds: odds rounded to multiples of COARSE_STEP thousandths, up for a measure and down for stakes.
use Rattle.std.specs.Prelude.{ℕ, ◌+◌, ◌-◌, ◌*◌, ◌/◌, ◌==◌, nat_le, Bool, Option, None, Some, List, map, filter, slice_index}
use Rattle.std.specs.List.{enumerate_from, range_with_len, position}
use Rattle.std.proofs.Common.{arith}
use Rattle.scan_types.specs.declared.limits.TheConstants.{LEAST_ODDS}
use Rattle.scan_types.specs.Ranges.{IsOddsRange}
use Rattle.scan_types.specs.declared.odds.Odds.{Odds}
use Rattle.scan_types.specs.declared.offer.Offer.{Offer}
use Rattle.judging_definitions.specs.declared.limits.TheConstants.{COARSE_STEP}

-- the least multiple of the step that is at least a number
abbrev pub rounded_up : ℕ → ℕ
rounded_up n = (n + (COARSE_STEP - 1)) / COARSE_STEP * COARSE_STEP

-- the greatest multiple of the step that is at most a number
abbrev pub rounded_down : ℕ → ℕ
rounded_down n = n / COARSE_STEP * COARSE_STEP

-- an offer at other odds
abbrev pub at_odds : Offer → Odds → Offer
at_odds offer odds =
    record {
      feed = offer.feed;
      selection = offer.selection;
      odds = odds;
      limit = offer.limit;
      rule = offer.rule;
      feed_at_most = offer.feed_at_most;
      limit_at_least = offer.limit_at_least;
      limit_at_most = offer.limit_at_most;
    }

-- odds rounded up are odds
pub raised_in_range : (odds : Odds) → IsOddsRange (rounded_up odds.thousandths)
raised_in_range odds = let least = odds.at_least in let most = odds.at_most in (omega arith, omega arith)

-- odds rounded up
abbrev pub raised_odds : Odds → Odds
raised_odds odds = record { thousandths = rounded_up odds.thousandths; at_least = (raised_in_range odds).0; at_most = (raised_in_range odds).1 }

-- the offers of a sheet, each at its odds rounded up
abbrev pub raised_offers : List Offer → List Offer
raised_offers offers = map (λ offer. at_odds offer (raised_odds offer.odds)) offers

-- the least coarse odds
abbrev pub least_coarse : ℕ
least_coarse = 1000 + COARSE_STEP

-- the greatest multiple of the step that is at most a number, and the least coarse odds in place of what is below them
abbrev pub lowered : ℕ → ℕ
lowered n = least_coarse + (rounded_down n - least_coarse)

-- such numbers are odds
pub lowered_in_range : (odds : Odds) → IsOddsRange (lowered odds.thousandths)
lowered_in_range odds = let most = odds.at_most in (omega arith, omega arith)

-- odds rounded down, and the least coarse odds in place of 1.000, which are none: their offers are left out
abbrev pub lowered_odds : Odds → Odds
lowered_odds odds = record { thousandths = lowered odds.thousandths; at_least = (lowered_in_range odds).0; at_most = (lowered_in_range odds).1 }

-- whether odds rounded down are above 1.000
abbrev pub stay_odds : Odds → Bool
stay_odds odds = nat_le LEAST_ODDS (rounded_down odds.thousandths)

-- the offers whose odds rounded down are above 1.000, each with its number on the sheet
abbrev pub kept_offers : List Offer → List (ℕ × Offer)
kept_offers offers = filter (λ offer. stay_odds offer.1.odds) (enumerate_from 0 offers)

-- their numbers
abbrev pub kept_numbers : List Offer → List ℕ
kept_numbers offers = map (λ offer. offer.0) (kept_offers offers)

-- and these offers, each at its odds rounded down
abbrev pub lowered_offers : List Offer → List Offer
lowered_offers offers = map (λ offer. at_odds offer.1 (lowered_odds offer.1.odds)) (kept_offers offers)

-- the item at a place, or 0
abbrev pub item_at : List ℕ → Option ℕ → ℕ
item_at items None = 0
item_at items (Some place) = slice_index items place

-- one item for each of so many offers: that of its number's place in a list, or 0 for an offer that is left out of the list
abbrev pub with_zeros : List ℕ → List ℕ → ℕ → List ℕ
with_zeros numbers items count = map (λ offer. item_at items (position (λ number. number == offer) numbers)) (range_with_len 0 count)
