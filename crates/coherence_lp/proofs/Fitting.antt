-- The divisor that fits items to limits.
use Rattle.std.proofs.Common.{◌≡◌, ℕ, suc, ◌+◌, ◌*◌, ◌<◌, ◌≤◌, max, List, [], ◌∷◌, length, subst, arith, mul_comm, mul-le-mul_left, le_trans}
use Rattle.std.specs.Prelude.{slice_index, slice_index_or}
use Rattle.std.specs.Int.{div_ceil}
use Rattle.std.specs.List.{AllZip}
use Rattle.std.proofs.lemmas.Grind.{div_ceil_times}
use borrow.Author.Count.{below_more}
use Rattle.scan_types.specs.declared.offer.Offer.{Offer}
use Rattle.judging_definitions.specs.Stakes.{IsFittingDivisor}
use Rattle.judging_laws.proofs.Directions.{any_offer}
use Rattle.coherence_lp.proofs.LimitedStakes.{zip_at}

-- a divisor fits the first items
abbrev pub FitsBefore : List Offer → List ℕ → ℕ → ℕ → Type 0
FitsBefore offers items i divisor = (k : ℕ) → k < i → slice_index items k ≤ (slice_index_or offers k any_offer).limit * divisor

-- the least divisor, from 1 on, that fits the first items
pub record IsFittingBefore (offers : List Offer) (items : List ℕ) (i divisor : ℕ) : Type 0 where
  pub above_zero : 1 ≤ divisor
  pub fits : FitsBefore offers items i divisor
  pub least : (other : ℕ) → 1 ≤ other → FitsBefore offers items i other → divisor ≤ other

pub fitting_none : (offers : List Offer) (items : List ℕ) → IsFittingBefore offers items 0 1
fitting_none offers items = record { above_zero = omega arith; fits = λ k h. absurd (omega (arith, h)); least = λ other some h. some }

ceil_fits : (x l : ℕ) → 0 < l → x ≤ l * div_ceil x l
ceil_fits x l some = let h = (div_ceil_times x l some).0 in subst (λ n. x ≤ n) (mul_comm (div_ceil x l) l) h

below_or : (a b : ℕ) → (b < a → ⊥) → a ≤ b
below_or a b h = omega arith

ceil_least : (x l k : ℕ) → 0 < l → x ≤ l * k → div_ceil x l ≤ k
ceil_least x l k some h = below_or (div_ceil x l) k (λ less.
    let most = (div_ceil_times x l some).1 in
    let more : l * (k + 1) ≤ l * div_ceil x l = mul-le-mul_left l (let e : k + 1 ≤ div_ceil x l = omega (arith, less) in e) in
    let turned = mul_comm (div_ceil x l) l in
    omega (arith, most, more, turned, h))

more_fits : (l d e : ℕ) → d ≤ e → l * d ≤ l * e
more_fits l d e h = mul-le-mul_left l h

pub fitting_more : (offers : List Offer) (items : List ℕ) (i d : ℕ) → IsFittingBefore offers items i d → IsFittingBefore offers items (i + 1) (max d (div_ceil (slice_index items i) (slice_index_or offers i any_offer).limit))
fitting_more offers items i d is =
    let l = (slice_index_or offers i any_offer).limit in
    let x = slice_index items i in
    let e = div_ceil x l in
    let some : 0 < l = (slice_index_or offers i any_offer).limit_at_least in
    let above_zero = is.above_zero in
    record {
      above_zero = omega (arith, above_zero);
      fits = below_more (λ k. slice_index items k ≤ (slice_index_or offers k any_offer).limit * max d e) i
          (λ k before. le_trans (is.fits k before) (more_fits (slice_index_or offers k any_offer).limit d (max d e) (omega arith)))
          (le_trans (ceil_fits x l some) (more_fits l e (max d e) (omega arith)));
      least = λ other positive h.
          (let first = is.least other positive (λ k before. h k (omega (arith, before))) in
          let second = ceil_least x l other some (h i (omega arith)) in
          omega (arith, first, second));
    }

zip_from : {A B : Type 0} (R : A → B → Type 0) (xs : List A) (ys : List B) (d : A) (e : B) → length ys ≡ length xs → ((k : ℕ) → k < length xs → R (slice_index_or xs k d) (slice_index_or ys k e)) → AllZip R xs ys
zip_from R [] [] d e count each = tt
zip_from R [] (y ∷ ys) d e count each = absurd (omega (arith, count))
zip_from R (x ∷ xs) [] d e count each = absurd (omega (arith, count))
zip_from R (x ∷ xs) (y ∷ ys) d e count each = (each 0 (omega arith), zip_from R xs ys d e (omega (arith, count)) (λ k h. each (suc k) (omega (arith, h))))

pub fitting_whole : (offers : List Offer) (items : List ℕ) (i d : ℕ) → length offers ≤ i → length items ≡ length offers → IsFittingBefore offers items i d → i ≤ length offers → IsFittingDivisor offers items d
fitting_whole offers items i d whole count is within = record {
  above_zero = is.above_zero;
  within_limits = zip_from (λ (offer : Offer) part. part ≤ offer.limit * d) offers items any_offer 0 count (λ k h. is.fits k (omega (arith, h, whole)));
  least = λ other some h. is.least other some (λ k before. zip_at (λ (offer : Offer) part. part ≤ offer.limit * other) offers items k any_offer 0 h (omega (arith, before, within)));
}
