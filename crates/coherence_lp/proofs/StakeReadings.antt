-- What is read of stakes over their common denominator.
use Rattle.std.proofs.Common.{◌≡◌, ℕ, zero, suc, ◌≤◌, inl, inr, List, [], ◌∷◌, length, map, max, sym, ap, ◌∙◌, subst, arith}
use Rattle.std.specs.Prelude.{Err}
use Rattle.std.specs.List.{All}
use Rattle.std.proofs.lemmas.List.{length-map}
use Rattle.std.proofs.lemmas.List.Elements.{All-nil, All-cons, length_all_zip}
use Rattle.row_definitions.specs.Rows.{row_divisor}
use Rattle.scan_types.specs.declared.limits.TheConstants.{MOST_PART}
use Rattle.scan_types.specs.declared.offer.Offer.{Offer}
use Rattle.finding_definitions.specs.Fractions.{Fractions}
use Rattle.finding_definitions.specs.declared.finding.WideAt.{WideAt}
use Rattle.finding_definitions.specs.declared.finding.WideAt.TheVariants.{Entry, Weight, Stake}
use Rattle.judging_definitions.specs.declared.limits.TheConstants.{MOST_COMMON_DENOMINATOR}
use Rattle.judging_definitions.specs.Stakes.{Fraction, multiples, IsFittingDivisor}
use Rattle.judging_definitions.specs.Readings.{FirstAbove, NoneAbove, ReadsWide, IsSmallDenominator, FirstWideDenominator, IsDirection, DirectionReads, AreParts, PartsRead}
use Rattle.coherence_lp.specs.declared.fault.ReadingFault.{ReadingFault}
use Rattle.coherence_lp.specs.declared.fault.ReadingFault.TheVariants.{Wide, WantOfMemory}
use Rattle.coherence_lp.specs.declared.ratio.Ratio.{Ratio}
use Rattle.coherence_lp.specs.Faults.{IfWide}
use Rattle.coherence_lp.specs.Ratios.{fraction_of, item_of, IsLowestForm, AreCommonStakes, IsWideStake}
use Rattle.coherence_lp.proofs.StakeLists.{LowestForms, numerators, IsNumeratorDivisor, common_of, parts_are, direction_is}

-- the denominators of stakes in lowest terms are above 0
pub all_stand : (S : List Fraction) (rs : List Ratio) → LowestForms S rs → All (λ (r : Ratio). 1 ≤ r.denominator) rs
all_stand [] [] forms = All-nil (λ (r : Ratio). 1 ≤ r.denominator)
all_stand [] (r ∷ rs) forms = absurd forms
all_stand (f ∷ S) [] forms = absurd forms
all_stand (f ∷ S) (r ∷ rs) forms = All-cons (λ (r : Ratio). 1 ≤ r.denominator) r rs forms.0.stands (all_stand S rs forms.1)

pub ratio_count : (S : List Fraction) (rs : List Ratio) → LowestForms S rs → length rs ≡ length S
ratio_count S rs forms = sym (length_all_zip IsLowestForm S (map fraction_of rs) forms ∙ length-map rs fraction_of)

pub small_of : (most : ℕ) (S : List Fraction) (rs : List Ratio) (D : ℕ) → AreCommonStakes S most rs D → IsSmallDenominator most S D
small_of most S rs D are = record { common = common_of S D are.common; small = are.small }

-- ---- parts

pub parts_read : (S : List Fraction) (rs : List Ratio) (D : ℕ) (parts : Fractions) → AreCommonStakes S MOST_PART rs D → NoneAbove MOST_PART parts.parts → parts.divisor ≡ D → parts.parts ≡ map (item_of D 1) rs → AreParts S parts
parts_read S rs D parts are none divisor is =
    let P : ℕ → Type 0 = λ d. IsSmallDenominator MOST_PART S d in
    record {
      common = subst P (sym divisor) (small_of MOST_PART S rs D are);
      are = is ∙ sym (parts_are D S rs are.lowest are.common.whole) ∙ ap (λ d. multiples d S) (sym divisor);
      small = none;
    }

parts_wide : (S : List Fraction) (rs : List Ratio) (D : ℕ) → AreCommonStakes S MOST_PART rs D → (place : WideAt) → IsWideStake (FirstAbove MOST_PART (map (item_of D 1) rs)) place → PartsRead S (ReadsWide place)
parts_wide S rs D are (Stake i) above = inr (D, small_of MOST_PART S rs D are, subst (λ xs. FirstAbove MOST_PART xs i) (sym (parts_are D S rs are.lowest are.common.whole)) above)
parts_wide S rs D are (Entry row column) above = above
parts_wide S rs D are (Weight class) above = above

-- ---- a fault that is handed on

if_wide : (P Q : WideAt → Type 0) → ((place : WideAt) → P place → Q place) → (fault : ReadingFault) → IfWide {A = ℕ} (Err fault) P → IfWide {A = ℕ} (Err fault) Q
if_wide P Q more (Wide place) h = more place h
if_wide P Q more WantOfMemory h = tt

parts_wide_stakes : (S : List Fraction) (place : WideAt) → IsWideStake (FirstWideDenominator MOST_PART S) place → PartsRead S (ReadsWide place)
parts_wide_stakes S (Stake i) wide = inl wide
parts_wide_stakes S (Entry row column) wide = wide
parts_wide_stakes S (Weight class) wide = wide

pub parts_stakes_fault : (S : List Fraction) (fault : ReadingFault) → IfWide {A = ℕ} (Err fault) (IsWideStake (FirstWideDenominator MOST_PART S)) → IfWide {A = ℕ} (Err fault) (λ place. PartsRead S (ReadsWide place))
parts_stakes_fault S fault h = if_wide (IsWideStake (FirstWideDenominator MOST_PART S)) (λ place. PartsRead S (ReadsWide place)) (parts_wide_stakes S) fault h

direction_wide_stakes : (offers : List Offer) (S : List Fraction) (place : WideAt) → IsWideStake (FirstWideDenominator MOST_COMMON_DENOMINATOR S) place → DirectionReads offers S (ReadsWide place)
direction_wide_stakes offers S (Stake i) wide = inl wide
direction_wide_stakes offers S (Entry row column) wide = wide
direction_wide_stakes offers S (Weight class) wide = wide

pub direction_stakes_fault : (offers : List Offer) (S : List Fraction) (fault : ReadingFault) → IfWide {A = ℕ} (Err fault) (IsWideStake (FirstWideDenominator MOST_COMMON_DENOMINATOR S)) → IfWide {A = ℕ} (Err fault) (λ place. DirectionReads offers S (ReadsWide place))
direction_stakes_fault offers S fault h = if_wide (IsWideStake (FirstWideDenominator MOST_COMMON_DENOMINATOR S)) (λ place. DirectionReads offers S (ReadsWide place)) (direction_wide_stakes offers S) fault h

pub parts_fault : (S : List Fraction) (rs : List Ratio) (D : ℕ) → AreCommonStakes S MOST_PART rs D → (fault : ReadingFault) → IfWide {A = ℕ} (Err fault) (IsWideStake (FirstAbove MOST_PART (map (item_of D 1) rs))) → IfWide {A = ℕ} (Err fault) (λ place. PartsRead S (ReadsWide place))
parts_fault S rs D are fault h = if_wide (IsWideStake (FirstAbove MOST_PART (map (item_of D 1) rs))) (λ place. PartsRead S (ReadsWide place)) (parts_wide S rs D are) fault h

-- ---- the direction

pub direction_read : (offers : List Offer) (S : List Fraction) (rs : List Ratio) (D N : ℕ) (parts : Fractions) → AreCommonStakes S MOST_COMMON_DENOMINATOR rs D → IsNumeratorDivisor rs N → NoneAbove MOST_PART parts.parts → parts.parts ≡ map (item_of D N) rs → IsFittingDivisor offers parts.parts parts.divisor → IsDirection offers S parts
direction_read offers S rs D N parts are divisor none is fits = record {
  denominator = D;
  common = small_of MOST_COMMON_DENOMINATOR S rs D are;
  parts = is ∙ sym (direction_is N D S rs are.lowest are.common divisor);
  small = none;
  fits = fits;
}

direction_wide : (offers : List Offer) (S : List Fraction) (rs : List Ratio) (D N : ℕ) → AreCommonStakes S MOST_COMMON_DENOMINATOR rs D → IsNumeratorDivisor rs N → (place : WideAt) → IsWideStake (FirstAbove MOST_PART (map (item_of D N) rs)) place → DirectionReads offers S (ReadsWide place)
direction_wide offers S rs D N are divisor (Stake i) above = inr (D, small_of MOST_COMMON_DENOMINATOR S rs D are, subst (λ xs. FirstAbove MOST_PART xs i) (sym (direction_is N D S rs are.lowest are.common divisor)) above)
direction_wide offers S rs D N are divisor (Entry row column) above = above
direction_wide offers S rs D N are divisor (Weight class) above = above

pub direction_fault : (offers : List Offer) (S : List Fraction) (rs : List Ratio) (D N : ℕ) → AreCommonStakes S MOST_COMMON_DENOMINATOR rs D → IsNumeratorDivisor rs N → (fault : ReadingFault) → IfWide {A = ℕ} (Err fault) (IsWideStake (FirstAbove MOST_PART (map (item_of D N) rs))) → IfWide {A = ℕ} (Err fault) (λ place. DirectionReads offers S (ReadsWide place))
direction_fault offers S rs D N are divisor fault h = if_wide (IsWideStake (FirstAbove MOST_PART (map (item_of D N) rs))) (λ place. DirectionReads offers S (ReadsWide place)) (direction_wide offers S rs D N are divisor) fault h

-- the greater of the numerators' divisor and 1
pub divisor_or_one : (rs : List Ratio) (g N : ℕ) → g ≡ row_divisor (numerators rs) → N ≡ max g 1 → IsNumeratorDivisor rs N
divisor_or_one rs zero N is same = inr (omega (arith, same), sym is)
divisor_or_one rs (suc g) N is same = (let e : N ≡ suc g = omega (arith, same) in inl (e ∙ is, omega (arith, e)))
