-- Which of the five amounts a bet gains depends on its selection, its rule and the outcome, not on its odds.
use Rattle.std.proofs.Common.{ℕ, ℤ, pos, negsuc, zero, suc, ◌≡◌, ◌≤◌, ◌+◌, ◌-◌, ◌*◌, ◌+ℤ◌, refl, sym, ap, subst, ◌∙◌, arith}
use Rattle.std.proofs.lemmas.Int.{ints}
use Rattle.scan_types.specs.declared.selection.Selection.{Selection}
use Rattle.scan_types.specs.declared.rule.VoidRule.{VoidRule}
use Rattle.scan_types.specs.declared.offer.Offer.{Offer}
use Rattle.scan_types.specs.declared.outcome.Outcome.{Outcome}
use Rattle.settlement_definitions.specs.declared.leg_result.LegResult.{LegResult}
use Rattle.settlement_definitions.specs.declared.leg_result.LegResult.TheVariants.{Win, Push, Lose}
use Rattle.settlement_definitions.specs.Legs.{legs_of}
use Rattle.settlement_definitions.specs.Abandonment.{leg_at}
use Rattle.settlement_definitions.specs.Gain.{gain, leg_gain}
use Rattle.settlement_laws.proofs.FiveGains.{AreNear, near_at}

-- the points of a result
abbrev points : LegResult → ℤ
points Win = pos 1
points Push = pos 0
points Lose = negsuc 0

-- a bet's level: the points of its two legs, -2 to 2
abbrev level : VoidRule → Selection → Outcome → ℤ
level rule s x = points (leg_at rule s (legs_of s).0 x) +ℤ points (leg_at rule s (legs_of s).1 x)

-- the amount of a level, where a won leg gains so much
abbrev amount : ℕ → ℤ → ℤ
amount profit (pos n) = pos (n * profit)
amount profit (negsuc n) = negsuc (1000 * n + 999)

amount_of : (odds : ℕ) → 1001 ≤ odds → (r s : LegResult) → AreNear r s → leg_gain odds r +ℤ leg_gain odds s ≡ amount (odds - 1000) (points r +ℤ points s)
amount_of odds h Win Win n = omega (arith, ints, h)
amount_of odds h Win Push n = omega (arith, ints, h)
amount_of odds h Win Lose n = absurd n
amount_of odds h Push Win n = omega (arith, ints, h)
amount_of odds h Push Push n = omega (arith, ints)
amount_of odds h Push Lose n = refl
amount_of odds h Lose Win n = absurd n
amount_of odds h Lose Push n = refl
amount_of odds h Lose Lose n = refl

times_once : (profit m n : ℕ) → 1 ≤ profit → m * profit ≡ n * profit → m ≡ n
times_once profit zero zero h e = refl
times_once profit zero (suc n) h e = absurd (omega (arith, h, e))
times_once profit (suc m) zero h e = absurd (omega (arith, h, e))
times_once profit (suc m) (suc n) h e = let rest : m * profit ≡ n * profit = omega (arith, e) in ap suc (times_once profit m n h rest)

-- each level has an amount of its own
level_once : (profit : ℕ) → 1 ≤ profit → (m n : ℤ) → amount profit m ≡ amount profit n → m ≡ n
level_once profit h (pos m) (pos n) e = ap pos (times_once profit m n h (omega (arith, ints, e)))
level_once profit h (pos m) (negsuc n) e = absurd (omega (arith, ints, e))
level_once profit h (negsuc m) (pos n) e = absurd (omega (arith, ints, e))
level_once profit h (negsuc m) (negsuc n) e = omega (arith, ints, e)

gain_by_level : (offer : Offer) (x : Outcome) → gain offer x ≡ amount (offer.odds.thousandths - 1000) (level offer.rule offer.selection x)
gain_by_level offer x =
    let legs = legs_of offer.selection in
    amount_of offer.odds.thousandths offer.odds.at_least (leg_at offer.rule offer.selection legs.0 x) (leg_at offer.rule offer.selection legs.1 x) (near_at offer.rule offer.selection x)

-- offers of one selection and rule gain alike at the same outcomes
pub same_bets_gain_alike : (one other : Offer) (x y : Outcome) → one.selection ≡ other.selection → one.rule ≡ other.rule → gain one x ≡ gain one y → gain other x ≡ gain other y
same_bets_gain_alike one other x y s r e =
    let least : 1001 ≤ one.odds.thousandths = one.odds.at_least in
    let levels : level one.rule one.selection x ≡ level one.rule one.selection y =
    level_once (one.odds.thousandths - 1000) (omega arith) _ _ (sym (gain_by_level one x) ∙ e ∙ gain_by_level one y) in
    let by_selection : level one.rule other.selection x ≡ level one.rule other.selection y = subst (λ t. level one.rule t x ≡ level one.rule t y) s levels in
    let by_rule : level other.rule other.selection x ≡ level other.rule other.selection y = subst (λ t. level t other.selection x ≡ level t other.selection y) r by_selection in
    gain_by_level other x ∙ ap (amount (other.odds.thousandths - 1000)) by_rule ∙ sym (gain_by_level other y)
