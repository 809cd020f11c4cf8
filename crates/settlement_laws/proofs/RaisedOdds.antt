-- The same bet at higher odds gains at least as much at every outcome.
use Rattle.std.proofs.Common.{ℕ, ℤ, ◌≡◌, ◌≤◌, ◌+ℤ◌, ◌≤ℤ◌, subst, arith}
use Rattle.std.proofs.lemmas.Int.{ints}
use Rattle.scan_types.specs.declared.selection.Selection.{Selection}
use Rattle.scan_types.specs.declared.rule.VoidRule.{VoidRule}
use Rattle.scan_types.specs.declared.offer.Offer.{Offer}
use Rattle.scan_types.specs.declared.outcome.Outcome.{Outcome}
use Rattle.settlement_definitions.specs.declared.leg_result.LegResult.{LegResult}
use Rattle.settlement_definitions.specs.declared.leg_result.LegResult.TheVariants.{Win, Push, Lose}
use Rattle.settlement_definitions.specs.Legs.{legs_of}
use Rattle.settlement_definitions.specs.Abandonment.{leg_at}
use Rattle.settlement_definitions.specs.Gain.{gain, leg_gain}

leg_no_less : (low high : ℕ) → low ≤ high → (r : LegResult) → leg_gain low r ≤ℤ leg_gain high r
leg_no_less low high h Win = omega (arith, ints, h)
leg_no_less low high h Push = omega (arith, ints)
leg_no_less low high h Lose = omega (arith, ints)

-- what a bet gains at so many thousandths
abbrev gain_at : ℕ → VoidRule → Selection → Outcome → ℤ
gain_at odds rule selection x = leg_gain odds (leg_at rule selection (legs_of selection).0 x) +ℤ leg_gain odds (leg_at rule selection (legs_of selection).1 x)

gain_no_less : (low high : ℕ) → low ≤ high → (rule : VoidRule) (selection : Selection) (x : Outcome) → gain_at low rule selection x ≤ℤ gain_at high rule selection x
gain_no_less low high h rule selection x =
    let one = leg_no_less low high h (leg_at rule selection (legs_of selection).0 x) in
    let other = leg_no_less low high h (leg_at rule selection (legs_of selection).1 x) in
    omega (arith, ints, one, other)

pub raising_odds_lowers_no_gain : (low high : Offer) (x : Outcome) → low.selection ≡ high.selection → low.rule ≡ high.rule → low.odds.thousandths ≤ high.odds.thousandths → gain low x ≤ℤ gain high x
raising_odds_lowers_no_gain low high x s r h =
    subst (λ t. gain low x ≤ℤ gain_at high.odds.thousandths high.rule t x) s
    (subst (λ t. gain low x ≤ℤ gain_at high.odds.thousandths t low.selection x) r
    (gain_no_less low.odds.thousandths high.odds.thousandths h low.rule low.selection x))
