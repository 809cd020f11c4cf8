-- A reading of a tableau gives one value.
use Rattle.std.proofs.Common.{◌≡◌, ℕ, zero, suc, ◌*◌, ◌/◌, ◌<◌, ◌≤◌, inl, inr, List, [], ◌∷◌, take, map, refl, sym, ap, ap₂, ◌∙◌, subst, arith}
use Rattle.std.specs.Prelude.{zip, Contains}
use Rattle.std.specs.List.{AllZip}
use Rattle.std.proofs.lemmas.Bool.{cases_order}
use Rattle.std.proofs.lemmas.List.Elements.{All-take}
use Rattle.std.proofs.lemmas.Nat.{le-div}
use Rattle.std.proofs.Math.Nat.{div-mul-le_self, le_of_mul-le-mul_left, mul-le-mul_right}
use Rattle.std.specs.Int.{◌∣◌}
use Rattle.scan_types.specs.declared.limits.TheConstants.{MOST_PART}
use Rattle.scan_types.specs.declared.offer.Offer.{Offer}
use Rattle.scan_types.specs.declared.outcome.Outcome.{Outcome}
use Rattle.pivot_definitions.specs.Tableaus.{SimplexTableau}
use Rattle.finding_definitions.specs.Fractions.{Fractions}
use Rattle.finding_definitions.specs.declared.finding.WideAt.TheVariants.{Entry, Weight, Stake}
use Rattle.judging_definitions.specs.declared.limits.TheConstants.{MOST_COMMON_DENOMINATOR}
use Rattle.judging_definitions.specs.Stakes.{Fraction, IsCommonDenominator, multiples, in_lowest_terms, IsFittingDivisor, AreScaledFloors}
use Rattle.judging_definitions.specs.Readings.{FirstAbove, NoneAbove, Reading, Reads, ReadsWide, class_weights, MeasureReads, IsSmallDenominator, FirstWideDenominator, FirstWideStake, IsDirection, DirectionReads, AreParts, PartsRead}

by_order : {P : Type 0} (a b : ℕ) → (a ≡ b → P) → (a < b → P) → (b < a → P) → P
by_order a b same less more = elim (cases_order a b) [ inl e ↦ same e | inr h ↦ elim h [ inl x ↦ less x | inr y ↦ more y ] ]

both_ways : (a b : ℕ) → a ≤ b → b ≤ a → a ≡ b
both_ways a b h k = omega arith

first_above_one : (most : ℕ) (numbers : List ℕ) (i j : ℕ) → FirstAbove most numbers i → FirstAbove most numbers j → i ≡ j
first_above_one most numbers i j first second = by_order i j (λ e. e)
    (λ h. let x = second.others i h in let y = first.above in absurd (omega arith))
    (λ h. let x = first.others j h in let y = second.above in absurd (omega arith))

first_above_none : (most : ℕ) (numbers : List ℕ) (i : ℕ) → FirstAbove most numbers i → NoneAbove most numbers → ⊥
first_above_none most numbers i first none = let x = none i 0 first.within in let y = first.above in omega arith

-- ---- the measure

pub measure_reads_one : (classes : List Outcome) (tableau : SimplexTableau) (a b : Reading (List (Outcome × ℕ))) → MeasureReads classes tableau a → MeasureReads classes tableau b → a ≡ b
measure_reads_one classes tableau (Reads m) (Reads n) first second = ap Reads (first.1 ∙ sym second.1)
measure_reads_one classes tableau (Reads m) (ReadsWide (Weight j)) first second = absurd (first_above_none MOST_PART (class_weights classes tableau) j second first.0)
measure_reads_one classes tableau (ReadsWide (Weight i)) (Reads n) first second = absurd (first_above_none MOST_PART (class_weights classes tableau) i first second.0)
measure_reads_one classes tableau (ReadsWide (Weight i)) (ReadsWide (Weight j)) first second = ap (λ k. ReadsWide (Weight k)) (first_above_one MOST_PART (class_weights classes tableau) i j first second)
measure_reads_one classes tableau (Reads m) (ReadsWide (Entry r c)) first second = absurd second
measure_reads_one classes tableau (Reads m) (ReadsWide (Stake j)) first second = absurd second
measure_reads_one classes tableau (ReadsWide (Entry r c)) b first second = absurd first
measure_reads_one classes tableau (ReadsWide (Stake j)) b first second = absurd first
measure_reads_one classes tableau (ReadsWide (Weight i)) (ReadsWide (Entry r c)) first second = absurd second
measure_reads_one classes tableau (ReadsWide (Weight i)) (ReadsWide (Stake j)) first second = absurd second

-- ---- common denominators

denominator_one : (fractions : List Fraction) (d e : ℕ) → IsCommonDenominator fractions d → IsCommonDenominator fractions e → d ≡ e
denominator_one fractions d e first second = both_ways d e (first.least e second.above_zero second.whole) (second.least d first.above_zero first.whole)

-- the denominator of the first fractions is at most that of all
prefix_denominator : (fractions : List Fraction) (n d e : ℕ) → IsCommonDenominator (take n fractions) d → IsCommonDenominator fractions e → d ≤ e
prefix_denominator fractions n d e first whole = first.least e whole.above_zero (All-take (λ fraction. fraction.denominator ∣ e * fraction.numerator) n fractions whole.whole)

wide_denominator_one : (most : ℕ) (fractions : List Fraction) (i j : ℕ) → FirstWideDenominator most fractions i → FirstWideDenominator most fractions j → i ≡ j
wide_denominator_one most fractions i j first second = by_order i j (λ e. e)
    (λ h. let other = second.others i h in let e = denominator_one (take (suc i) fractions) first.denominator other.0 first.common other.1.common in let s = other.1.small in let a = first.above in absurd (omega (arith, e, s, a)))
    (λ h. let other = first.others j h in let e = denominator_one (take (suc j) fractions) second.denominator other.0 second.common other.1.common in let s = other.1.small in let a = second.above in absurd (omega (arith, e, s, a)))

wide_not_small : (most : ℕ) (fractions : List Fraction) (i d : ℕ) → FirstWideDenominator most fractions i → IsSmallDenominator most fractions d → ⊥
wide_not_small most fractions i d wide small = let h = prefix_denominator fractions (suc i) wide.denominator d wide.common small.common in let s = small.small in let a = wide.above in omega arith

small_one : (most : ℕ) (fractions : List Fraction) (d e : ℕ) → IsSmallDenominator most fractions d → IsSmallDenominator most fractions e → d ≡ e
small_one most fractions d e first second = denominator_one fractions d e first.common second.common

wide_stake_one : (most : ℕ) (form : List ℕ → List ℕ) (fractions : List Fraction) (i j : ℕ) → FirstWideStake most form fractions i → FirstWideStake most form fractions j → i ≡ j
wide_stake_one most form fractions i j (inl a) (inl b) = wide_denominator_one most fractions i j a b
wide_stake_one most form fractions i j (inl a) (inr b) = absurd (wide_not_small most fractions i b.0 a b.1)
wide_stake_one most form fractions i j (inr a) (inl b) = absurd (wide_not_small most fractions j a.0 b a.1)
wide_stake_one most form fractions i j (inr a) (inr b) =
    first_above_one MOST_PART (form (multiples a.0 fractions)) i j a.2 (subst (λ d. FirstAbove MOST_PART (form (multiples d fractions)) j) (small_one most fractions b.0 a.0 b.1 a.1) b.2)

wide_stake_none : (most : ℕ) (form : List ℕ → List ℕ) (fractions : List Fraction) (i d : ℕ) → FirstWideStake most form fractions i → IsSmallDenominator most fractions d → NoneAbove MOST_PART (form (multiples d fractions)) → ⊥
wide_stake_none most form fractions i d (inl a) small none = wide_not_small most fractions i d a small
wide_stake_none most form fractions i d (inr a) small none =
    first_above_none MOST_PART (form (multiples d fractions)) i (subst (λ e. FirstAbove MOST_PART (form (multiples e fractions)) i) (small_one most fractions a.0 d a.1 small) a.2) none

-- ---- the direction

fitting_one : (offers : List Offer) (parts : List ℕ) (d e : ℕ) → IsFittingDivisor offers parts d → IsFittingDivisor offers parts e → d ≡ e
fitting_one offers parts d e first second = both_ways d e (first.least e second.above_zero second.within_limits) (second.least d first.above_zero first.within_limits)

same_fractions : (a b : Fractions) → a.divisor ≡ b.divisor → a.parts ≡ b.parts → a ≡ b
same_fractions a b d p = ap₂ (λ x y. let f : Fractions = record { divisor = x; parts = y } in f) d p

direction_one : (offers : List Offer) (fractions : List Fraction) (a b : Fractions) → IsDirection offers fractions a → IsDirection offers fractions b → a ≡ b
direction_one offers fractions a b first second =
    let same : a.parts ≡ b.parts = first.parts ∙ ap (λ d. in_lowest_terms (multiples d fractions)) (small_one MOST_COMMON_DENOMINATOR fractions first.denominator second.denominator first.common second.common) ∙ sym second.parts in
    same_fractions a b (fitting_one offers a.parts a.divisor b.divisor first.fits (subst (λ parts. IsFittingDivisor offers parts b.divisor) (sym same) second.fits)) same

direction_not_wide : (offers : List Offer) (fractions : List Fraction) (a : Fractions) (i : ℕ) → IsDirection offers fractions a → FirstWideStake MOST_COMMON_DENOMINATOR in_lowest_terms fractions i → ⊥
direction_not_wide offers fractions a i is wide = wide_stake_none MOST_COMMON_DENOMINATOR in_lowest_terms fractions i is.denominator wide is.common (subst (NoneAbove MOST_PART) is.parts is.small)

pub direction_reads_one : (offers : List Offer) (fractions : List Fraction) (a b : Reading Fractions) → DirectionReads offers fractions a → DirectionReads offers fractions b → a ≡ b
direction_reads_one offers fractions (Reads a) (Reads b) first second = ap Reads (direction_one offers fractions a b first second)
direction_reads_one offers fractions (Reads a) (ReadsWide (Stake j)) first second = absurd (direction_not_wide offers fractions a j first second)
direction_reads_one offers fractions (ReadsWide (Stake i)) (Reads b) first second = absurd (direction_not_wide offers fractions b i second first)
direction_reads_one offers fractions (ReadsWide (Stake i)) (ReadsWide (Stake j)) first second = ap (λ k. ReadsWide (Stake k)) (wide_stake_one MOST_COMMON_DENOMINATOR in_lowest_terms fractions i j first second)
direction_reads_one offers fractions (Reads a) (ReadsWide (Entry r c)) first second = absurd second
direction_reads_one offers fractions (Reads a) (ReadsWide (Weight j)) first second = absurd second
direction_reads_one offers fractions (ReadsWide (Entry r c)) b first second = absurd first
direction_reads_one offers fractions (ReadsWide (Weight j)) b first second = absurd first
direction_reads_one offers fractions (ReadsWide (Stake i)) (ReadsWide (Entry r c)) first second = absurd second
direction_reads_one offers fractions (ReadsWide (Stake i)) (ReadsWide (Weight j)) first second = absurd second

-- ---- the parts

parts_one : (fractions : List Fraction) (a b : Fractions) → AreParts fractions a → AreParts fractions b → a ≡ b
parts_one fractions a b first second =
    let d : a.divisor ≡ b.divisor = small_one MOST_PART fractions a.divisor b.divisor first.common second.common in
    same_fractions a b d (first.are ∙ ap (λ e. multiples e fractions) d ∙ sym second.are)

parts_not_wide : (fractions : List Fraction) (a : Fractions) (i : ℕ) → AreParts fractions a → FirstWideStake MOST_PART (λ items. items) fractions i → ⊥
parts_not_wide fractions a i are wide = wide_stake_none MOST_PART (λ items. items) fractions i a.divisor wide are.common (subst (NoneAbove MOST_PART) are.are are.small)

pub parts_read_one : (fractions : List Fraction) (a b : Reading Fractions) → PartsRead fractions a → PartsRead fractions b → a ≡ b
parts_read_one fractions (Reads a) (Reads b) first second = ap Reads (parts_one fractions a b first second)
parts_read_one fractions (Reads a) (ReadsWide (Stake j)) first second = absurd (parts_not_wide fractions a j first second)
parts_read_one fractions (ReadsWide (Stake i)) (Reads b) first second = absurd (parts_not_wide fractions b i second first)
parts_read_one fractions (ReadsWide (Stake i)) (ReadsWide (Stake j)) first second = ap (λ k. ReadsWide (Stake k)) (wide_stake_one MOST_PART (λ items. items) fractions i j first second)
parts_read_one fractions (Reads a) (ReadsWide (Entry r c)) first second = absurd second
parts_read_one fractions (Reads a) (ReadsWide (Weight j)) first second = absurd second
parts_read_one fractions (ReadsWide (Entry r c)) b first second = absurd first
parts_read_one fractions (ReadsWide (Weight j)) b first second = absurd first
parts_read_one fractions (ReadsWide (Stake i)) (ReadsWide (Entry r c)) first second = absurd second
parts_read_one fractions (ReadsWide (Stake i)) (ReadsWide (Weight j)) first second = absurd second

-- ---- scaled floors

-- what binds binds at each offer
binds_at : (offers : List Offer) (direction : List ℕ) (limit item other_limit other_item : ℕ) → AllZip (λ offer other. 1 ≤ other → limit * other ≤ offer.limit * item) offers direction → Contains (zip (map (λ offer. offer.limit) offers) direction) (other_limit, other_item) → 1 ≤ other_item → limit * other_item ≤ other_limit * item
binds_at [] direction limit item other_limit other_item binds stands some = absurd (omega (arith, stands.1))
binds_at (offer ∷ offers) [] limit item other_limit other_item binds stands some = absurd binds
binds_at (offer ∷ offers) (x ∷ direction) limit item other_limit other_item binds (zero, within, is) some =
    let a : offer.limit ≡ other_limit = ap (λ p. p.0) is in
    let b : x ≡ other_item = ap (λ p. p.1) is in
    subst (λ l. limit * other_item ≤ l * item) a (subst (λ y. limit * y ≤ offer.limit * item) b (binds.0 (subst (λ y. 1 ≤ y) (sym b) some)))
binds_at (offer ∷ offers) (x ∷ direction) limit item other_limit other_item binds (suc k, within, is) some = binds_at offers direction limit item other_limit other_item binds.1 (k, omega (arith, within), is) some

less_from_product : (k a b : ℕ) → 1 ≤ k → k * a ≤ k * b → a ≤ b
less_from_product k a b some h = le_of_mul-le-mul_left h some

-- floors by equal ratios
floor_below : (l m l' m' x : ℕ) → 1 ≤ m → 1 ≤ m' → l * m' ≤ l' * m → l * x / m ≤ l' * x / m'
floor_below l m l' m' x some some' less =
    let q = l * x / m in
    let whole : q * m ≤ l * x = div-mul-le_self (l * x) m in
    let more : (l * m') * x ≤ (l' * m) * x = mul-le-mul_right x less in
    let lifted : q * m * m' ≤ l * x * m' = mul-le-mul_right m' whole in
    le-div q (l' * x) m' some' (less_from_product m (q * m') (l' * x) some (omega (arith, more, lifted)))

map_same : {f g : ℕ → ℕ} (xs : List ℕ) → ((x : ℕ) → f x ≡ g x) → map f xs ≡ map g xs
map_same [] each = refl
map_same (x ∷ xs) each = ap₂ (λ y ys. y ∷ ys) (each x) (map_same xs each)

pub scaled_floors_one : (offers : List Offer) (direction a b : List ℕ) → AreScaledFloors offers direction a → AreScaledFloors offers direction b → a ≡ b
scaled_floors_one offers direction a b first second =
    let less = binds_at offers direction first.limit first.item second.limit second.item first.binds second.stands second.above_zero in
    let more = binds_at offers direction second.limit second.item first.limit first.item second.binds first.stands first.above_zero in
    let each : (x : ℕ) → first.limit * x / first.item ≡ second.limit * x / second.item = λ x. both_ways _ _ (floor_below first.limit first.item second.limit second.item x first.above_zero second.above_zero less) (floor_below second.limit second.item first.limit first.item x second.above_zero first.above_zero more) in
    first.are ∙ map_same direction each ∙ sym second.are
