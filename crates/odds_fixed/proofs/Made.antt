-- Odds of a text, as a constructor answers them.
use Rattle.std.proofs.Common.{◌≡◌, ℕ, List, Option, Some, None, refl, ap, ◌∙◌}
use Rattle.std.specs.Option.{ok_or}
use Rattle.scan_types.specs.declared.odds.Odds.{Odds}
use Rattle.number_definitions.specs.Readings.{thousandths_of}
use Rattle.number_definitions.specs.Values.{odds_with, or_cause, in_range}
use Rattle.odds_fixed.specs.declared.faults.OddsFault.TheVariants.{BadOdds, OddsRange}
use Rattle.odds_fixed.specs.Faults.{odds_or_fault}

pub odds_read : (text : List ℕ) (n : ℕ) (made : Option Odds) → Some n ≡ thousandths_of text → made ≡ odds_with n → ok_or made OddsRange ≡ odds_or_fault text
odds_read text n made is same = in_order made ∙ ap (or_cause OddsRange) same ∙ ap (λ o. in_range BadOdds OddsRange o odds_with) is
  where
    in_order : (made : Option Odds) → ok_or made OddsRange ≡ or_cause OddsRange made
    in_order None = refl
    in_order (Some odds) = refl
