use Rattle.std.specs.Prelude.{ℕ, ℤ, pos, negsuc, zero, suc, ◌+ℤ◌, ◌-ℤ◌, ◌*◌, ◌/◌, ◌==◌, unsigned_abs, if◌then◌else◌}
use Rattle.scan_types.specs.declared.offer.Offer.{Offer}
use Rattle.scan_types.specs.declared.outcome.Outcome.{Outcome}
use Rattle.settlement_definitions.specs.declared.leg_result.LegResult.{LegResult}
use Rattle.settlement_definitions.specs.declared.leg_result.LegResult.TheVariants.{Win, Push, Lose}
use Rattle.settlement_definitions.specs.Legs.{legs_of}
use Rattle.settlement_definitions.specs.Abandonment.{leg_at}

-- what one unit on a leg gains, in thousandths: the odds less the stake, nothing, or the stake lost
abbrev pub leg_gain : ℕ → LegResult → ℤ
leg_gain odds Win = pos odds -ℤ pos 1000
leg_gain odds Push = pos 0
leg_gain odds Lose = negsuc 999

-- what a bet gains at an outcome, in 1/2000 of its stake: half the stake is on each leg
abbrev pub gain : Offer → Outcome → ℤ
gain offer x =
    let legs = legs_of offer.selection in
    leg_gain offer.odds.thousandths (leg_at offer.rule offer.selection legs.0 x) +ℤ leg_gain offer.odds.thousandths (leg_at offer.rule offer.selection legs.1 x)

-- what comes back of a stake: stake and gain, rounded down once to the minor unit
abbrev pub paid : Offer → ℕ → Outcome → ℕ
paid offer stake x = stake * unsigned_abs (pos 2000 +ℤ gain offer x) / 2000

-- what comes back, less the stake
abbrev pub net : Offer → ℕ → Outcome → ℤ
net offer stake x = pos (paid offer stake x) -ℤ pos stake

-- what rounding a stake down to whole minor units may cost, in thousandths of a unit: the odds at a
-- gain, the stake at the loss of one leg
abbrev pub slack_of_gain : ℕ → ℤ → ℕ
slack_of_gain odds (pos zero) = 0
slack_of_gain odds (pos (suc _)) = odds
slack_of_gain odds (negsuc n) = if n == 999 then 1000 else 0

-- the same for an offer at an outcome
abbrev pub slack : Offer → Outcome → ℕ
slack offer x = slack_of_gain offer.odds.thousandths (gain offer x)
