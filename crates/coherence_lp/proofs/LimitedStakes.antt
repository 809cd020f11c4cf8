-- The stakes of a program with limits: each offer has the column after its number.
use Rattle.std.proofs.Common.{◌≡◌, ℕ, zero, suc, ◌+◌, ◌/◌, ◌<◌, ◌≤◌, List, [], ◌∷◌, length, sym, ap, ◌∙◌, arith}
use Rattle.std.specs.Prelude.{slice_index_or}
use Rattle.std.specs.List.{AllZip}
use Rattle.std.proofs.lemmas.List.{get_or-map}
use Rattle.std.proofs.Math.Nat.{div-div-eq-div-mul}
use Rattle.pivot_definitions.specs.Tableaus.{SimplexTableau}
use Rattle.scan_types.specs.declared.limits.TheConstants.{MOST_LIMIT}
use Rattle.scan_types.specs.declared.offer.Offer.{Offer}
use Rattle.scan_types.specs.declared.outcome.Outcome.{Outcome}
use Rattle.settlement_definitions.specs.Classes.{classes_of}
use Rattle.judging_definitions.specs.Columns.{offer_divisor}
use Rattle.judging_definitions.specs.Stakes.{Fraction, column_value, stake_in_column, fractional_stakes, all_numbers, floors}
use Rattle.judging_laws.proofs.Spread.{place}
use Rattle.judging_laws.proofs.Levels.{best_facts}
use Rattle.judging_laws.proofs.Parts.{floors_within, place_in_range}
use Rattle.coherence_lp.specs.Ends.{IsBestEnd, IsLimitedEnd}
use Rattle.coherence_lp.proofs.EndFacts.{reached_shape}
use Rattle.coherence_lp.proofs.StakeLists.{length-stakes, stake_at}

any_fraction : Fraction
any_fraction = record { numerator = 0; denominator = 1 }

pub limited_columns : (offers : List Offer) (t : SimplexTableau) → IsLimitedEnd offers t → t.columns ≡ suc (length offers)
limited_columns offers t end = (reached_shape _ t end.1.0).columns

pub limited_is_best : (offers : List Offer) (t : SimplexTableau) → IsLimitedEnd offers t → IsBestEnd t
limited_is_best offers t end = (_, end.1)

-- a stake rounded down
pub floor_at : (classes : List Outcome) (offers : List Offer) (t : SimplexTableau) (i : ℕ) (o : Offer) → i < length offers → slice_index_or (floors (fractional_stakes classes offers (all_numbers offers) t)) i 0 ≡ (column_value t (suc i)).numerator / (column_value t (suc i)).denominator / offer_divisor classes (slice_index_or offers i o)
floor_at classes offers t i o within =
    let floor : Fraction → ℕ = λ f. f.numerator / f.denominator in
    let stakes = fractional_stakes classes offers (all_numbers offers) t in
    let divisor = offer_divisor classes (slice_index_or offers i o) in
    let here = ap (λ m. place m (all_numbers offers)) (let e : i ≡ 0 + i = omega arith in e) ∙ place_in_range 0 (length offers) i within in
    get_or-map floor stakes i any_fraction 0 (omega (arith, within, length-stakes classes offers (all_numbers offers) t))
    ∙ ap floor (stake_at classes offers (all_numbers offers) t i o any_fraction within ∙ ap (stake_in_column t divisor) here)
    ∙ sym (div-div-eq-div-mul (column_value t (suc i)).numerator (column_value t (suc i)).denominator divisor)

pub zip_at : {A B : Type 0} (R : A → B → Type 0) (xs : List A) (ys : List B) (i : ℕ) (d : A) (e : B) → AllZip R xs ys → i < length xs → R (slice_index_or xs i d) (slice_index_or ys i e)
zip_at R [] ys i d e all h = absurd (omega (arith, h))
zip_at R (x ∷ xs) [] i d e all h = absurd all
zip_at R (x ∷ xs) (y ∷ ys) zero d e all h = all.0
zip_at R (x ∷ xs) (y ∷ ys) (suc i) d e all h = zip_at R xs ys i d e all.1 (omega (arith, h))

-- and it is within the limit
pub floor_small : (offers : List Offer) (t : SimplexTableau) (i : ℕ) (o : Offer) → IsLimitedEnd offers t → i < length offers → slice_index_or (floors (fractional_stakes (classes_of offers) offers (all_numbers offers) t)) i 0 ≤ MOST_LIMIT
floor_small offers t i o (asked, at_best) within =
    let within_limits = floors_within offers asked t at_best.0 (best_facts _ t at_best.0 at_best.1) in
    let small = zip_at (λ (offer : Offer) stake. stake ≤ offer.limit) offers (floors (fractional_stakes (classes_of offers) offers (all_numbers offers) t)) i o 0 within_limits within in
    let most = (slice_index_or offers i o).limit_at_most in
    omega (arith, small, most)
