use Rattle.std.proofs.Common.{ℕ, ℤ, pos, negsuc, ◌≡◌, ◌<◌, ◌≤◌, ◌+ℤ◌, ◌-ℤ◌, ◌≤ℤ◌, ap, ◌∙◌, arith, true, false}
use Rattle.std.specs.Prelude.{nat_lt, ◌==◌}
use Rattle.std.proofs.lemmas.Int.{ints}
use Rattle.std.proofs.lemmas.Bool.Decides.{nat_tests}
use Rattle.scan_types.specs.declared.selection.Selection.{Selection}
use Rattle.scan_types.specs.declared.selection.Selection.TheVariants.{Home, Draw, Away, HandicapHome, HandicapAway, Over, Under}
use Rattle.scan_types.specs.declared.offer.Offer.{Offer}
use Rattle.scan_types.specs.declared.outcome.Outcome.{Outcome}
use Rattle.settlement_definitions.specs.declared.leg_result.LegResult.{LegResult}
use Rattle.settlement_definitions.specs.declared.leg_result.LegResult.TheVariants.{Win, Push, Lose}
use Rattle.settlement_definitions.specs.Legs.{legs_of, leg_result, win_if}
use Rattle.settlement_definitions.specs.Abandonment.{leg_at}
use Rattle.settlement_definitions.specs.Gain.{gain, leg_gain}
use Rattle.scan_types.specs.Selections.{IsOnResult}

-- where both legs go alike, the gain is the same
pub gain-same_legs : (offer : Offer) (x y : Outcome) → ((leg : ℤ) → leg_at offer.rule offer.selection leg x ≡ leg_at offer.rule offer.selection leg y) → gain offer x ≡ gain offer y
gain-same_legs offer x y same =
    let first = same (legs_of offer.selection).0 in
    let second = same (legs_of offer.selection).1 in
    ap (λ r. leg_gain offer.odds.thousandths r +ℤ leg_gain offer.odds.thousandths (leg_at offer.rule offer.selection (legs_of offer.selection).1 x)) first ∙ ap (λ r. leg_gain offer.odds.thousandths (leg_at offer.rule offer.selection (legs_of offer.selection).0 y) +ℤ leg_gain offer.odds.thousandths r) second

-- a leg on the result is settled by who leads
pub leg_result-home_leads : (selection : Selection) (leg : ℤ) (h a : ℕ) → IsOnResult selection → a < h → leg_result selection leg h a ≡ leg_result selection leg 1 0
leg_result-home_leads Home leg h a on lt = let e : nat_lt a h ≡ true = grind (arith, nat_tests) in ap win_if e
leg_result-home_leads Draw leg h a on lt = let e : (h == a) ≡ false = grind (arith, nat_tests) in ap win_if e
leg_result-home_leads Away leg h a on lt = let e : nat_lt h a ≡ false = grind (arith, nat_tests) in ap win_if e
leg_result-home_leads (HandicapHome _) leg h a on lt = absurd on
leg_result-home_leads (HandicapAway _) leg h a on lt = absurd on
leg_result-home_leads (Over _) leg h a on lt = absurd on
leg_result-home_leads (Under _) leg h a on lt = absurd on

pub leg_result-level : (selection : Selection) (leg : ℤ) (h a : ℕ) → IsOnResult selection → h ≡ a → leg_result selection leg h a ≡ leg_result selection leg 0 0
leg_result-level Home leg h a on eq = let e : nat_lt a h ≡ false = grind (arith, nat_tests) in ap win_if e
leg_result-level Draw leg h a on eq = let e : (h == a) ≡ true = grind (arith, nat_tests) in ap win_if e
leg_result-level Away leg h a on eq = let e : nat_lt h a ≡ false = grind (arith, nat_tests) in ap win_if e
leg_result-level (HandicapHome _) leg h a on eq = absurd on
leg_result-level (HandicapAway _) leg h a on eq = absurd on
leg_result-level (Over _) leg h a on eq = absurd on
leg_result-level (Under _) leg h a on eq = absurd on

pub leg_result-away_leads : (selection : Selection) (leg : ℤ) (h a : ℕ) → IsOnResult selection → h < a → leg_result selection leg h a ≡ leg_result selection leg 0 1
leg_result-away_leads Home leg h a on lt = let e : nat_lt a h ≡ false = grind (arith, nat_tests) in ap win_if e
leg_result-away_leads Draw leg h a on lt = let e : (h == a) ≡ false = grind (arith, nat_tests) in ap win_if e
leg_result-away_leads Away leg h a on lt = let e : nat_lt h a ≡ true = grind (arith, nat_tests) in ap win_if e
leg_result-away_leads (HandicapHome _) leg h a on lt = absurd on
leg_result-away_leads (HandicapAway _) leg h a on lt = absurd on
leg_result-away_leads (Over _) leg h a on lt = absurd on
leg_result-away_leads (Under _) leg h a on lt = absurd on

-- a leg loses at most the stake and gains at most the odds less the stake
pub leg_gain-range : (odds : ℕ) (r : LegResult) → 1001 ≤ odds → (negsuc 999 ≤ℤ leg_gain odds r) × (leg_gain odds r ≤ℤ (pos odds -ℤ pos 1000))
leg_gain-range odds Win h = (omega (arith, ints), omega (arith, ints))
leg_gain-range odds Push h = (omega (arith, ints), omega (arith, ints))
leg_gain-range odds Lose h = (omega (arith, ints), omega (arith, ints))
