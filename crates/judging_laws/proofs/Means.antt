-- The multipliers at the best end of a run, as weights of the classes: what each offer gains by them.
use Rattle.std.proofs.Common.{◌≡◌, ℕ, zero, suc, ◌<◌, List, length, map, refl, sym, ap, ◌∙◌, subst, arith}
use Rattle.std.specs.Prelude.{slice_index_or, unsigned_abs}
use Rattle.std.specs.Int.{◌∣◌}
use Rattle.std.proofs.lemmas.List.{get_or-map}
use lib.IntN.{ℤ, pos, ◌+ℤ◌, ◌*ℤ◌, neg_ℤ}
use lib.Signed.{◌≤ℤ◌}
use Rattle.row_definitions.specs.Rows.{row_divisor, entry}
use Rattle.row_definitions.proofs.Numbers.{divided-exact}
use Rattle.row_definitions.proofs.Divisors.{row_divisor_is, Divides-entry}
use Rattle.pivot_definitions.specs.Programs.{LinearProgram, coefficient}
use Rattle.pivot_definitions.specs.Tableaus.{SimplexTableau, multiplier_of}
use Rattle.pivot_definitions.specs.Duality.{sum_below}
use Rattle.pivot_definitions.proofs.Ring.{dif_is, difs, dif_same, linear}
use Rattle.pivot_definitions.proofs.Sums.{sum_same, sum_scaled_right}
use Rattle.scan_types.specs.declared.offer.Offer.{Offer}
use Rattle.scan_types.specs.declared.outcome.Outcome.{Outcome}
use Rattle.settlement_definitions.specs.Gain.{gain}
use Rattle.judging_definitions.specs.Columns.{offer_divisor, divided_gain}
use Rattle.judging_laws.proofs.ProgramRows.{HasClassRows}

-- an offer's gain at a class is its divided gain times its divisor
pub gain_is : (classes : List Outcome) (offer : Offer) (j : ℕ) (x : Outcome) → j < length classes → pos (offer_divisor classes offer) *ℤ divided_gain classes offer (slice_index_or classes j x) ≡ gain offer (slice_index_or classes j x)
gain_is classes offer j x within =
    let row = map (gain offer) classes in
    let at : entry row j ≡ gain offer (slice_index_or classes j x) = get_or-map (gain offer) classes j x (pos 0) within in
    divided-exact (offer_divisor classes offer) (gain offer (slice_index_or classes j x)) (subst (λ g. row_divisor row ∣ unsigned_abs g) at (Divides-entry (row_divisor row) row j (row_divisor_is row).0))

-- a sum over the classes by the multipliers of their rows
abbrev pub by_multipliers : List Outcome → SimplexTableau → (Outcome → ℤ) → Outcome → ℤ
by_multipliers classes tableau f d = sum_below (length classes) (λ j. multiplier_of tableau j *ℤ f (slice_index_or classes j d))

pub sum_at_most : (n : ℕ) (f g : ℕ → ℤ) → ((k : ℕ) → k < n → f k ≤ℤ g k) → sum_below n f ≤ℤ sum_below n g
sum_at_most zero f g each = omega (arith, linear)
sum_at_most (suc n) f g each = (let x = sum_at_most n f g (λ k h. each k (omega arith)) in let y = each n (omega arith) in omega (arith, linear, x, y))

negated_step : (x m b : ℤ) → neg_ℤ x +ℤ m *ℤ neg_ℤ b ≡ neg_ℤ (x +ℤ m *ℤ b)
negated_step x m b = rw (dif_is x, dif_is m, dif_is b) (simp difs (dif_same _ _ _ _ (omega arith)))

pub sum_negated_right : (n : ℕ) (m b : ℕ → ℤ) → sum_below n (λ j. m j *ℤ neg_ℤ (b j)) ≡ neg_ℤ (sum_below n (λ j. m j *ℤ b j))
sum_negated_right zero m b = refl
sum_negated_right (suc n) m b = ap (λ x. x +ℤ m n *ℤ neg_ℤ (b n)) (sum_negated_right n m b) ∙ negated_step (sum_below n (λ j. m j *ℤ b j)) (m n) (b n)

-- what an offer gains by the multipliers is its divisor times what it gains divided
pub gains_by_divisor : (classes : List Outcome) (tableau : SimplexTableau) (offer : Offer) (d : Outcome) → by_multipliers classes tableau (gain offer) d ≡ pos (offer_divisor classes offer) *ℤ by_multipliers classes tableau (divided_gain classes offer) d
gains_by_divisor classes tableau offer d =
    sum_same (length classes) (λ j. multiplier_of tableau j *ℤ gain offer (slice_index_or classes j d)) (λ j. multiplier_of tableau j *ℤ (pos (offer_divisor classes offer) *ℤ divided_gain classes offer (slice_index_or classes j d))) (λ j h. ap (λ g. multiplier_of tableau j *ℤ g) (sym (gain_is classes offer j d h)))
    ∙ sum_scaled_right (length classes) (pos (offer_divisor classes offer)) (multiplier_of tableau) (λ j. divided_gain classes offer (slice_index_or classes j d))

-- the part of the classes in the sum of an offer's column
pub class_part : (classes : List Outcome) (offers : List Offer) (asked : Outcome → ℤ) (program : LinearProgram) (tableau : SimplexTableau) (k : ℕ) (o : Offer) (d : Outcome) → HasClassRows classes offers asked program → k < length offers → sum_below (length classes) (λ j. multiplier_of tableau j *ℤ coefficient program j (suc k)) ≡ neg_ℤ (by_multipliers classes tableau (divided_gain classes (slice_index_or offers k o)) d)
class_part classes offers asked program tableau k o d rows within =
    sum_same (length classes) (λ j. multiplier_of tableau j *ℤ coefficient program j (suc k)) (λ j. multiplier_of tableau j *ℤ neg_ℤ (divided_gain classes (slice_index_or offers k o) (slice_index_or classes j d))) (λ j h. ap (λ c. multiplier_of tableau j *ℤ c) (rows.gains j k d o h within))
    ∙ sum_negated_right (length classes) (multiplier_of tableau) (λ j. divided_gain classes (slice_index_or offers k o) (slice_index_or classes j d))

-- the part of the classes in the sum of the level's column
pub level_part : (classes : List Outcome) (offers : List Offer) (asked : Outcome → ℤ) (program : LinearProgram) (tableau : SimplexTableau) (d : Outcome) → HasClassRows classes offers asked program → sum_below (length classes) (λ j. multiplier_of tableau j *ℤ coefficient program j 0) ≡ by_multipliers classes tableau asked d
level_part classes offers asked program tableau d rows =
    sum_same (length classes) (λ j. multiplier_of tableau j *ℤ coefficient program j 0) (λ j. multiplier_of tableau j *ℤ asked (slice_index_or classes j d)) (λ j h. ap (λ c. multiplier_of tableau j *ℤ c) (rows.level j d h))
