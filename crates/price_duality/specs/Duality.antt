use Rattle.std.specs.Prelude.{ℕ, List}
use Rattle.scan_types.specs.declared.offer.Offer.{Offer}
use Rattle.scan_types.specs.declared.outcome.Outcome.{Outcome}
use Rattle.finding_definitions.specs.Arbitrage.{IsArbitrage, ReachesUnit}
use Rattle.finding_definitions.specs.declared.finding.Finding.{Finding}
use Rattle.finding_definitions.specs.Findings.{IsRight}
use Rattle.finding_definitions.specs.Truths.{IsTrueOf, WinsUnit}
use Rattle.finding_definitions.specs.Verdicts.{IsRightCoherent, IsRightThin, IsRightNarrow, ReachesSlack}

-- weights under which no offer gains on average rule out stakes that win a unit
abbrev pub RulesOutUnit : Type 0
RulesOutUnit =
    (offers : List Offer) (measure : List (Outcome × ℕ)) (divisor : ℕ) (parts : List ℕ) → IsRightCoherent offers measure → ¬ WinsUnit offers divisor parts

-- among them those within the limits
abbrev pub RulesOutReach : Type 0
RulesOutReach =
    (offers : List Offer) (measure : List (Outcome × ℕ)) (divisor : ℕ) (parts : List ℕ) → IsRightCoherent offers measure → ¬ ReachesUnit offers divisor parts

-- and every arbitrage in whole stakes
abbrev pub RulesOutArbitrage : Type 0
RulesOutArbitrage =
    (offers : List Offer) (measure : List (Outcome × ℕ)) (stakes : List ℕ) → IsRightCoherent offers measure → ¬ IsArbitrage offers stakes

-- weights that no stakes within the limits can outweigh by a whole unit rule out that such stakes reach one
abbrev pub ThinRulesOutReach : Type 0
ThinRulesOutReach =
    (offers : List Offer) (measure : List (Outcome × ℕ)) (d divisor : ℕ) (found parts : List ℕ) → IsRightThin offers d found measure → ¬ ReachesUnit offers divisor parts

-- and so every arbitrage in whole stakes
abbrev pub ThinRulesOutArbitrage : Type 0
ThinRulesOutArbitrage =
    (offers : List Offer) (measure : List (Outcome × ℕ)) (d : ℕ) (found stakes : List ℕ) → IsRightThin offers d found measure → ¬ IsArbitrage offers stakes

-- weights that outweigh the need with slack rule out that stakes within the limits reach it
abbrev pub NarrowRulesOutSlack : Type 0
NarrowRulesOutSlack =
    (offers : List Offer) (measure : List (Outcome × ℕ)) (d divisor : ℕ) (found parts : List ℕ) → IsRightNarrow offers d found measure → ¬ ReachesSlack offers divisor parts

-- a right finding is true of its sheet: no stakes do what it rules out
abbrev pub RightIsTrue : Type 0
RightIsTrue = (offers : List Offer) (finding : Finding) → IsRight offers finding → IsTrueOf offers finding
