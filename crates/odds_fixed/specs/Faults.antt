-- The value of a text, or the fault for which it is refused.
use Rattle.std.specs.Prelude.{ℕ, List, Result}
use Rattle.scan_types.specs.declared.odds.Odds.{Odds}
use Rattle.number_definitions.specs.Readings.{thousandths_of, limit_of}
use Rattle.number_definitions.specs.Values.{odds_with, limit_with, in_range}
use Rattle.odds_fixed.specs.declared.faults.OddsFault.{OddsFault}
use Rattle.odds_fixed.specs.declared.faults.OddsFault.TheVariants.{BadOdds, OddsRange}
use Rattle.odds_fixed.specs.declared.faults.LimitFault.{LimitFault}
use Rattle.odds_fixed.specs.declared.faults.LimitFault.TheVariants.{BadLimit, LimitRange}

abbrev pub odds_or_fault : List ℕ → Result Odds OddsFault
odds_or_fault text = in_range BadOdds OddsRange (thousandths_of text) odds_with

abbrev pub limit_or_fault : List ℕ → Result ℕ LimitFault
limit_or_fault text = in_range BadLimit LimitRange (limit_of text) limit_with
