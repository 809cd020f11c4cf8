-- A loop that looks for the first place at which a fact fails.
use Rattle.std.proofs.Common.{◌≡◌, ℕ, ◌+◌, ◌<◌, List, zero, suc, [], ◌∷◌, length, get_or, inl, inr, refl, subst, arith}
use Rattle.std.proofs.lemmas.Bool.{cases_lt}
use Rattle.cert_checker.specs.Places.{AllHold, IsFirstFailure}

-- the fact holds at each place before k
abbrev pub HoldBefore : {X : Type 0} → (ℕ → X → Type 0) → List X → ℕ → Type 0
HoldBefore {X} P xs k = (j : ℕ) (d : X) → j < k → P j (get_or xs j d)

-- what a list has at a place does not depend on the default
pub get_or-any : {X : Type 0} (xs : List X) (k : ℕ) (d e : X) → k < length xs → get_or xs k d ≡ get_or xs k e
get_or-any [] k d e lt = absurd (omega arith)
get_or-any (x ∷ xs) zero d e lt = refl
get_or-any (x ∷ xs) (suc k) d e lt = get_or-any xs k d e (omega arith)

-- one place more
pub before_more : {X : Type 0} (P : ℕ → X → Type 0) (xs : List X) (k : ℕ) (x : X) → k < length xs → HoldBefore P xs k → P k (get_or xs k x) → HoldBefore P xs (k + 1)
before_more {X} P xs k x lt before here j d below =
    elim (cases_lt j k) [
      | inl less ↦ before j d less
      | inr not_less ↦
          let same : k ≡ j = omega arith in
          subst (λ i. P i (get_or xs i d)) same (subst (P k) (get_or-any xs k x d lt) here)
    ]

-- the place at which the fact fails first
pub first_failure : {X : Type 0} (P : ℕ → X → Type 0) (xs : List X) (k : ℕ) (x : X) → k < length xs → HoldBefore P xs k → (P k (get_or xs k x) → ⊥) → IsFirstFailure P xs k
first_failure P xs k x lt before fails = record {
  within = lt;
  before = before;
  fails = λ d here. fails (subst (P k) (get_or-any xs k d x lt) here);
}

-- the whole list is passed
pub all_hold : {X : Type 0} (P : ℕ → X → Type 0) (xs : List X) (k : ℕ) → k ≡ length xs → HoldBefore P xs k → AllHold P xs
all_hold P xs k end before j d below = before j d (omega arith)
