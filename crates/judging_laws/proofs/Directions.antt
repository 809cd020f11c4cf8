-- At level 1 of the program without limits the direction gains at every final score and loses at no abandonment.
use Rattle.std.proofs.Common.{◌≡◌, ℕ, zero, suc, ◌*◌, ◌<◌, ◌≤◌, List, [], ◌∷◌, length, map, refl, sym, ap, ap₂, ◌∙◌, subst, arith, lit≤}
use Rattle.std.specs.Prelude.{slice_index_or, unsigned_abs}
use Rattle.std.proofs.lemmas.Int.{unsigned_abs-mul, ints}
use lib.IntN.{ℤ, pos, ◌+ℤ◌, ◌*ℤ◌, pos-*ℤ-pos}
use lib.Signed.{◌<ℤ◌, ◌≤ℤ◌}
use borrow.Author.Differences.{same_out}
use Rattle.row_definitions.specs.Rows.{row_divisor, primitive_row, scaled}
use Rattle.row_definitions.proofs.Primitives.{scaled-primitive_row}
use Rattle.pivot_definitions.specs.Tableaus.{SimplexTableau}
use Rattle.pivot_definitions.specs.Runs.{IsBest}
use Rattle.pivot_definitions.specs.Duality.{IsReached}
use Rattle.pivot_definitions.proofs.Ring.{dif_is, difs, dif_same, linear, times_zero, zero_times, times_one, positive_from_product, not_negative_from_product}
use Rattle.scan_types.specs.declared.offer.Offer.{Offer}
use Rattle.scan_types.specs.declared.odds.Odds.{Odds}
use Rattle.scan_types.specs.declared.rule.VoidRule.TheVariants.{Void}
use Rattle.scan_types.specs.declared.selection.Selection.TheVariants.{Home}
use Rattle.scan_types.specs.declared.outcome.Outcome.{Outcome}
use Rattle.scan_types.specs.declared.outcome.Outcome.TheVariants.{Full, Abandoned}
use Rattle.settlement_definitions.specs.Gain.{gain}
use Rattle.settlement_definitions.specs.Classes.{classes_of}
use Rattle.finding_definitions.specs.Arbitrage.{need, total_gain}
use Rattle.finding_definitions.specs.Fractions.{Fractions}
use Rattle.settlement_laws.proofs.Alike.{each_has_class}
use Rattle.settlement_laws.proofs.AlikeSums.{equal_needs, equal_gains, bound_from_classes}
use Rattle.judging_definitions.specs.Columns.{leading_offers}
use Rattle.judging_definitions.specs.JudgingPrograms.{homogeneous_program}
use Rattle.judging_definitions.specs.Stakes.{fractional_stakes, multiples, in_lowest_terms}
use Rattle.judging_definitions.specs.Readings.{HasLevelOne, IsDirection}
use Rattle.judging_laws.proofs.ProgramRows.{homogeneous_classes}
use Rattle.judging_laws.proofs.Levels.{best_facts}
use Rattle.judging_laws.proofs.Gains.{leading_columns, stakes_reach}

-- some offer, for places past the end of a list
any_odds : Odds
any_odds = record { thousandths = 2000; at_least = lit≤ tt; at_most = lit≤ tt }

pub any_offer : Offer
any_offer = record { feed = 0; selection = Home; odds = any_odds; limit = 1; rule = Void; feed_at_most = lit≤ tt; limit_at_least = lit≤ tt; limit_at_most = lit≤ tt }

-- ---- lowest terms

sizes : (items : List ℕ) → map unsigned_abs (map pos items) ≡ items
sizes [] = refl
sizes (x ∷ items) = ap (λ xs. x ∷ xs) (sizes items)

sizes_scaled : (g : ℕ) (row : List ℤ) → map unsigned_abs (scaled g row) ≡ map (λ n. g * n) (map unsigned_abs row)
sizes_scaled g [] = refl
sizes_scaled g (x ∷ row) = ap₂ (λ y ys. y ∷ ys) (unsigned_abs-mul (pos g) x) (sizes_scaled g row)

-- what a list is divided by
abbrev pub lowest_divisor : List ℕ → ℕ
lowest_divisor items = row_divisor (map pos items)

pub lowest_is : (items : List ℕ) → items ≡ map (λ n. lowest_divisor items * n) (in_lowest_terms items)
lowest_is items = sym (ap (map unsigned_abs) (scaled-primitive_row (map pos items)) ∙ sizes items) ∙ sizes_scaled (lowest_divisor items) (primitive_row (map pos items))

times_step : (g n x y : ℤ) → (g *ℤ n) *ℤ x +ℤ g *ℤ y ≡ g *ℤ (n *ℤ x +ℤ y)
times_step g n x y = rw (dif_is g, dif_is n, dif_is x, dif_is y) (simp difs (dif_same _ _ _ _ (omega arith)))

pub gain_times : (offers : List Offer) (g : ℕ) (items : List ℕ) (x : Outcome) → total_gain offers (map (λ n. g * n) items) x ≡ pos g *ℤ total_gain offers items x
gain_times [] g items x = sym (times_zero (pos g))
gain_times (offer ∷ offers) g [] x = sym (times_zero (pos g))
gain_times (offer ∷ offers) g (n ∷ items) x =
    ap₂ (λ a b. a *ℤ gain offer x +ℤ b) (sym (pos-*ℤ-pos g n)) (gain_times offers g items x) ∙ times_step (pos g) (pos n) (gain offer x) (total_gain offers items x)

-- ---- the direction

-- some class of a sheet is a final score
some_final : (offers : List Offer) → (j : ℕ) × (x : Outcome) × (j < length (classes_of offers)) × (need (slice_index_or (classes_of offers) j x) ≡ pos 1)
some_final offers =
    let found = each_has_class offers (Full 0 0) in
    (found.1.0, found.0, found.1.1, ap need found.1.2 ∙ equal_needs offers found.0 (Full 0 0) found.2)

ints_of : (d : ℕ) → 1 ≤ d → pos 0 <ℤ pos d
ints_of d some = omega (arith, ints)

divisor_above : (g : ℕ) (d : ℕ) (x : ℤ) → 1 ≤ d → (pos d *ℤ pos 1) ≤ℤ (pos g *ℤ x) → pos 0 <ℤ pos g
divisor_above zero d x some h = absurd (let z = zero_times x in let y = times_one (pos d) in omega (arith, linear, ints_of d some, h, same_out _ _ z, same_out _ _ y))
divisor_above (suc g) d x some h = omega (arith, ints)

-- a whole number that is a positive share of one at least 0, or above 0
needs_met : (g d : ℕ) (x : Outcome) (total : ℤ) → pos 0 <ℤ pos g → 1 ≤ d → (pos d *ℤ need x) ≤ℤ (pos g *ℤ total) → need x ≤ℤ total
needs_met g d (Full h a) total positive some bound =
    let one = times_one (pos d) in
    let above : pos 0 <ℤ (pos g *ℤ total) = omega (arith, linear, ints_of d some, bound, same_out _ _ one) in
    let t = positive_from_product (pos g) total positive above in
    omega (arith, linear, t)
needs_met g d (Abandoned h a) total positive some bound =
    let none = times_zero (pos d) in
    not_negative_from_product (pos g) total positive (omega (arith, linear, bound, same_out _ _ none))

-- where a run of the program without limits is at its best at level 1, the direction gains at every final score and loses at no abandonment
pub direction_gains : (offers : List Offer) (tableau : SimplexTableau) (direction : Fractions) → IsReached (homogeneous_program (classes_of offers) (map (λ e. e.1) (leading_offers offers (classes_of offers)))) tableau → IsBest tableau → HasLevelOne tableau → IsDirection offers (fractional_stakes (classes_of offers) offers (map (λ e. e.0) (leading_offers offers (classes_of offers))) tableau) direction → (x : Outcome) → need x ≤ℤ total_gain offers direction.parts x
direction_gains offers tableau direction reached best one is =
    let classes = classes_of offers in
    let leading = leading_offers offers classes in
    let columns = map (λ (e : ℕ × Offer). e.1) leading in
    let numbers = map (λ (e : ℕ × Offer). e.0) leading in
    let stakes = fractional_stakes classes offers numbers tableau in
    let d = is.denominator in
    let items = multiples d stakes in
    let g = lowest_divisor items in
    let facts = best_facts (homogeneous_program classes columns) tableau reached best in
    let parts : in_lowest_terms items ≡ direction.parts = sym is.parts in
    let total : (x : Outcome) → total_gain offers items x ≡ pos g *ℤ total_gain offers direction.parts x =
    λ x. ap (λ xs. total_gain offers xs x) (lowest_is items) ∙ gain_times offers g (in_lowest_terms items) x ∙ ap (λ xs. pos g *ℤ total_gain offers xs x) parts in
    let at : (j : ℕ) (x : Outcome) (o : Offer) → j < length classes → (pos d *ℤ need (slice_index_or classes j x)) ≤ℤ (pos g *ℤ total_gain offers direction.parts (slice_index_or classes j x)) =
    λ j x o h. subst (λ z. (pos d *ℤ need (slice_index_or classes j x)) ≤ℤ z) (total (slice_index_or classes j x)) (stakes_reach classes offers numbers columns need (homogeneous_program classes columns) tableau facts d j x o (leading_columns offers classes) reached (homogeneous_classes classes columns) one is.common.common.whole h) in
    let final = some_final offers in
    let reaches = subst (λ z. (pos d *ℤ z) ≤ℤ (pos g *ℤ total_gain offers direction.parts (slice_index_or classes final.0 final.1))) final.3 (at final.0 final.1 any_offer final.2) in
    let positive = divisor_above g d (total_gain offers direction.parts (slice_index_or classes final.0 final.1)) is.common.common.above_zero reaches in
    bound_from_classes offers need (total_gain offers direction.parts) (equal_needs offers) (equal_gains offers direction.parts)
    (λ j x h. needs_met g d (slice_index_or classes j x) (total_gain offers direction.parts (slice_index_or classes j x)) positive is.common.common.above_zero (at j x any_offer h))
