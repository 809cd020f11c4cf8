-- The level of the program for the best stakes stays below 1.
use Rattle.std.proofs.Common.{◌≡◌, ℕ, ◌+◌, ◌-◌, ◌*◌, ◌≤◌, List, [], ◌∷◌, ap, subst, ◌∙◌, arith}
use Rattle.std.specs.Prelude.{ℤ, pos, ◌*ℤ◌, ◌≤ℤ◌, sum_by, slice_index_or}
use Rattle.std.specs.List.{AllZip}
use Rattle.std.proofs.lemmas.Int.{ints}
use Rattle.std.proofs.lemmas.Grind.{div_ceil_times}
use Rattle.std.proofs.lemmas.List.Sums.{sum_by-cons}
use Rattle.std.proofs.Math.Nat.{mul-le-mul_left, mul-le-mul_right}
use Rattle.scan_types.specs.declared.offer.Offer.{Offer}
use Rattle.scan_types.specs.declared.outcome.Outcome.{Outcome}
use Rattle.scan_types.specs.declared.outcome.Outcome.TheVariants.{Full}
use Rattle.settlement_definitions.specs.Legs.{legs_of}
use Rattle.settlement_definitions.specs.Abandonment.{leg_at}
use Rattle.settlement_definitions.specs.Gain.{gain}
use Rattle.settlement_definitions.specs.Classes.{classes_of}
use Rattle.settlement_definitions.proofs.GainLemmas.{leg_gain-range}
use Rattle.settlement_laws.proofs.Alike.{each_has_class}
use Rattle.settlement_laws.proofs.AlikeSums.{equal_needs}
use Rattle.pivot_definitions.specs.Tableaus.{SimplexTableau}
use Rattle.pivot_definitions.specs.Runs.{IsBest}
use Rattle.pivot_definitions.specs.Duality.{IsReached}
use Rattle.finding_definitions.specs.Arbitrage.{need, total_gain}
use Rattle.price_duality.proofs.Products.{times_le}
use Rattle.judging_definitions.specs.MostProgram.{most_win, most_need}
use Rattle.judging_definitions.specs.Stakes.{fractional_stakes, all_numbers, multiples}
use Rattle.judging_definitions.specs.Readings.{HasLevelOne}
use Rattle.judging_laws.proofs.ProgramRows.{limited_classes}
use Rattle.judging_laws.proofs.Levels.{best_facts}
use Rattle.judging_laws.proofs.Gains.{all_columns, stakes_reach}
use Rattle.judging_laws.proofs.Parts.{parts_within, limited_denominators, whole_exists}
use Rattle.judging_laws.proofs.Directions.{any_offer}
use Rattle.best_laws.specs.Laws.{most_program}

-- a bet gains at most twice its profit
gain_most : (offer : Offer) (x : Outcome) → gain offer x ≤ℤ pos (2 * (offer.odds.thousandths - 1000))
gain_most offer x =
    let first = leg_gain-range offer.odds.thousandths (leg_at offer.rule offer.selection (legs_of offer.selection).0 x) offer.odds.at_least in
    let second = leg_gain-range offer.odds.thousandths (leg_at offer.rule offer.selection (legs_of offer.selection).1 x) offer.odds.at_least in
    omega (arith, ints, first, second, offer.odds.at_least)

product_most : (part limit d p w : ℕ) → part ≤ limit * d → limit * p ≤ w * 1000 → part * (2 * p) ≤ 2000 * d * w
product_most part limit d p w within covers =
    let larger : part * (2 * p) ≤ limit * d * (2 * p) = mul-le-mul_right (2 * p) within in
    let more : 2 * d * (limit * p) ≤ 2 * d * (w * 1000) = mul-le-mul_left (2 * d) covers in
    omega (arith, larger, more)

-- a part within its limit gains at most what the limit wins
part_most : (offer : Offer) (x : Outcome) (part d : ℕ) → part ≤ offer.limit * d → (pos part *ℤ gain offer x) ≤ℤ pos (2000 * d * most_win offer)
part_most offer x part d within =
    let p = offer.odds.thousandths - 1000 in
    let covers : offer.limit * p ≤ most_win offer * 1000 = (div_ceil_times (offer.limit * p) 1000 (omega arith)).0 in
    let gained = times_le part (gain offer x) (pos (2 * p)) (gain_most offer x) in
    let product = product_most part offer.limit d p (most_win offer) within covers in
    omega (arith, ints, gained, product)

-- parts within the limits gain together at most what the limits win
total_most : (offers : List Offer) (parts : List ℕ) (d : ℕ) (x : Outcome) → AllZip (λ (o : Offer) p. p ≤ o.limit * d) offers parts → total_gain offers parts x ≤ℤ pos (2000 * d * sum_by most_win offers)
total_most [] parts d x within = omega (arith, ints)
total_most (offer ∷ offers) [] d x within = absurd within
total_most (offer ∷ offers) (part ∷ parts) d x within =
    let here = part_most offer x part d within.0 in
    let rest = total_most offers parts d x within.1 in
    let sum = sum_by-cons most_win offer offers in
    let split : 2000 * d * sum_by most_win (offer ∷ offers) ≡ 2000 * d * most_win offer + 2000 * d * sum_by most_win offers = ap (λ n. 2000 * d * n) sum ∙ omega arith in
    omega (arith, ints, here, rest, split)

too_much : (d s : ℕ) (z total : ℤ) → 1 ≤ d → z ≡ pos 1 → (pos d *ℤ (pos (2000 * (1 + s)) *ℤ z)) ≤ℤ total → total ≤ℤ pos (2000 * d * s) → ⊥
too_much d s z total some one low high =
    let at : (pos d *ℤ (pos (2000 * (1 + s)) *ℤ pos 1)) ≤ℤ total = subst (λ y. (pos d *ℤ (pos (2000 * (1 + s)) *ℤ y)) ≤ℤ total) one low in
    let inner : pos (2000 * (1 + s)) *ℤ pos 1 ≡ pos (2000 * (1 + s)) = omega (arith, ints) in
    let whole : pos d *ℤ pos (2000 * (1 + s)) ≡ pos (d * (2000 * (1 + s))) = omega (arith, ints) in
    let spread : d * (2000 * (1 + s)) ≡ 2000 * d + 2000 * d * s = omega arith in
    let lower : pos (d * (2000 * (1 + s))) ≤ℤ total = subst (λ y. y ≤ℤ total) (ap (λ y. pos d *ℤ y) inner ∙ whole) at in
    omega (arith, ints, lower, high, spread, some)

pub below_one : (offers : List Offer) (tableau : SimplexTableau) → IsReached (most_program offers) tableau → IsBest tableau → HasLevelOne tableau → ⊥
below_one offers tableau reached best one =
    let classes = classes_of offers in
    let asked = most_need offers in
    let facts = best_facts (most_program offers) tableau reached best in
    let stakes = fractional_stakes classes offers (all_numbers offers) tableau in
    let whole = whole_exists stakes (limited_denominators offers asked tableau reached facts) in
    let d = whole.0 in
    let found = each_has_class offers (Full 0 0) in
    let y = slice_index_or classes found.1.0 found.0 in
    let at : y ≡ found.0 = found.1.2 in
    let final : need y ≡ pos 1 = ap need at ∙ equal_needs offers found.0 (Full 0 0) found.2 in
    let reaches = stakes_reach classes offers (all_numbers offers) offers asked (most_program offers) tableau facts d found.1.0 found.0 any_offer (all_columns offers) reached (limited_classes classes offers asked) one whole.2 found.1.1 in
    too_much d (sum_by most_win offers) (need y) (total_gain offers (multiples d stakes) y) whole.1 final reaches
    (total_most offers (multiples d stakes) d y (parts_within offers asked tableau d reached facts))
