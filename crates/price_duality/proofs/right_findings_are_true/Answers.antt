use Rattle.scan_types.specs.declared.offer.Offer.{Offer}
use Rattle.std.proofs.Common.{List}
use Rattle.finding_definitions.specs.declared.finding.Finding.{Finding}
use Rattle.finding_definitions.specs.declared.finding.Finding.TheVariants.{Arb, Coherent, Thin, Narrow, Wide, OutOfPivots}
use Rattle.finding_definitions.specs.Findings.{IsRight}
use Rattle.finding_definitions.specs.Truths.{RulesOut}
use Rattle.price_duality.proofs.Limits.{thin_rules_out_unit, arbitrage_reaches}
use Rattle.price_duality.proofs.Verdict.{no_unit, reached_wins, arbitrage_wins}
use Rattle.price_duality.proofs.right_findings_are_true.Goals as goal

rules_out : (offers : List Offer) (finding : Finding) → IsRight offers finding → RulesOut offers finding
rules_out offers (Arb stakes) right = tt
rules_out offers (Coherent m) right = (
  record {
    whole = λ stakes a. no_unit offers m 1 stakes right (arbitrage_wins offers stakes a);
    fractions = λ divisor parts r. no_unit offers m divisor parts right (reached_wins offers divisor parts r);
  },
  λ divisor parts. no_unit offers m divisor parts right,
)
rules_out offers (Thin found m) right =
    record {
      whole = λ stakes a. thin_rules_out_unit offers m found.divisor 1 found.parts stakes right (arbitrage_reaches offers stakes a);
      fractions = λ divisor parts. thin_rules_out_unit offers m found.divisor divisor found.parts parts right;
    }
rules_out offers (Narrow parts m) right = tt
rules_out offers (Wide stage pivots place) right = tt
rules_out offers (OutOfPivots stage pivots) right = tt

pub returns : goal.returns
returns c offers finding right = record { right = right; rules_out = rules_out offers finding right }
