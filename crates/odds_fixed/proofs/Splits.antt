-- A list as the parts round its first element that passes a test.
use Rattle.std.proofs.Common.{◌≡◌, ℕ, ◌+◌, ◌-◌, ◌<◌, ◌≤◌, Bool, true, false, cond, ltb, List, [], ◌∷◌, length, take, drop, Some, None, refl, sym, ap, ◌∙◌, arith}
use Rattle.std.specs.List.{slice_split, position, position_or_len}
use Rattle.std.proofs.lemmas.List.Splits.{slice_split_first, slice_split_none}
use Rattle.std.proofs.lemmas.List.Sums.{fails_before_first}
use Rattle.std.proofs.lemmas.List.{take_rest}
use Rattle.std.proofs.lemmas.Bool.{ltb-false, ltb-true}
use Rattle.std.proofs.lemmas.Option.{cond_some}

-- where `position` finds nothing no element passes
pub no_first : (p : ℕ → Bool) (xs : List ℕ) → position p xs ≡ None → ltb (position_or_len p xs) (length xs) ≡ false
no_first p xs h = elim (ltb (position_or_len p xs) (length xs)) as (λ b. cond b (Some (position_or_len p xs)) None ≡ None → b ≡ false) [
  | true ↦ λ e. absurd (cc)
  | false ↦ λ e. refl
] h

pub split_none : (p : ℕ → Bool) (xs : List ℕ) → position p xs ≡ None → slice_split p xs ≡ xs ∷ []
split_none p xs h =
    let all : length xs ≤ position_or_len p xs = ltb-false (position_or_len p xs) (length xs) (no_first p xs h) in
    slice_split_none p xs (λ k d within. fails_before_first p xs k d (omega (arith, all, within)))

pub record Found (p : ℕ → Bool) (xs : List ℕ) (at : ℕ) : Type 0 where
  pub within : at < length xs
  pub is : position_or_len p xs ≡ at

pub found : (p : ℕ → Bool) (xs : List ℕ) (at : ℕ) → position p xs ≡ Some at → Found p xs at
found p xs at h =
    let e = cond_some (ltb (position_or_len p xs) (length xs)) (position_or_len p xs) at h in
    let lt : position_or_len p xs < length xs = ltb-true (position_or_len p xs) (length xs) e.0 in
    record { within = omega (arith, lt, e.1); is = e.1 }

-- the parts before and after the first element that passes
pub split_found : (p : ℕ → Bool) (xs : List ℕ) (at : ℕ) → position p xs ≡ Some at →
    slice_split p xs ≡ take at xs ∷ slice_split p (drop (at + 1) xs)
split_found p xs at h =
    let f = found p xs at h in
    let lt : position_or_len p xs < length xs = omega (arith, f.within, f.is) in
    slice_split_first p xs 0 lt ∙ ap (λ k. take k xs ∷ slice_split p (drop (k + 1) xs)) f.is

pub split_found_rest : (p : ℕ → Bool) (xs : List ℕ) (at : ℕ) → position p xs ≡ Some at →
    slice_split p xs ≡ take at xs ∷ slice_split p (take (length xs - (at + 1)) (drop (at + 1) xs))
split_found_rest p xs at h = split_found p xs at h ∙ ap (λ r. take at xs ∷ slice_split p r) (sym (take_rest xs (at + 1)))
