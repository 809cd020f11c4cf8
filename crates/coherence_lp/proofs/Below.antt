-- Tests of all numbers below a bound, and tests of lists.
use Rattle.std.proofs.Common.{◌≡◌, ℕ, zero, suc, ◌<◌, Bool, true, false, ◌&&◌, ◌||◌, List, [], ◌∷◌, length, refl, sym, ap, ap₂, ◌∙◌, arith}
use Rattle.std.specs.Prelude.{slice_index_or}
use Rattle.std.specs.List.{list_all, list_any}
use Rattle.pivot_definitions.proofs.Ring.{by_eq}
use Rattle.coherence_lp.specs.Comparisons.{all_below, any_below}

and_false : (a : Bool) → (a && false) ≡ false
and_false true = refl
and_false false = refl

or_true : (a : Bool) → (a || true) ≡ true
or_true true = refl
or_true false = refl

and_assoc : (a b c : Bool) → ((a && b) && c) ≡ (a && (b && c))
and_assoc true b c = refl
and_assoc false b c = refl

or_assoc : (a b c : Bool) → ((a || b) || c) ≡ (a || (b || c))
or_assoc true b c = refl
or_assoc false b c = refl

and_true : (a : Bool) → (a && true) ≡ a
and_true true = refl
and_true false = refl

or_false : (a : Bool) → (a || false) ≡ a
or_false true = refl
or_false false = refl

pub all_fails : (test : ℕ → Bool) (n j : ℕ) → j < n → test j ≡ false → all_below test n ≡ false
all_fails test zero j h e = absurd (omega (arith, h))
all_fails test (suc n) j h e = by_eq j n
    (λ same. ap (λ b. all_below test n && b) (ap test (sym same) ∙ e) ∙ and_false (all_below test n))
    (λ differ. ap (λ b. b && test n) (all_fails test n j (omega (arith, h, differ)) e))

pub any_passes : (test : ℕ → Bool) (n j : ℕ) → j < n → test j ≡ true → any_below test n ≡ true
any_passes test zero j h e = absurd (omega (arith, h))
any_passes test (suc n) j h e = by_eq j n
    (λ same. ap (λ b. any_below test n || b) (ap test (sym same) ∙ e) ∙ or_true (any_below test n))
    (λ differ. ap (λ b. b || test n) (any_passes test n j (omega (arith, h, differ)) e))

pub all_same : (test other : ℕ → Bool) (n : ℕ) → ((k : ℕ) → k < n → test k ≡ other k) → all_below test n ≡ all_below other n
all_same test other zero each = refl
all_same test other (suc n) each = ap₂ (λ a b. a && b) (all_same test other n (λ k h. each k (omega arith))) (each n (omega arith))

pub any_same : (test other : ℕ → Bool) (n : ℕ) → ((k : ℕ) → k < n → test k ≡ other k) → any_below test n ≡ any_below other n
any_same test other zero each = refl
any_same test other (suc n) each = ap₂ (λ a b. a || b) (any_same test other n (λ k h. each k (omega arith))) (each n (omega arith))

all_front : (test : ℕ → Bool) (n : ℕ) → all_below test (suc n) ≡ (test 0 && all_below (λ k. test (suc k)) n)
all_front test zero = sym (and_true (test 0))
all_front test (suc n) = ap (λ b. b && test (suc n)) (all_front test n) ∙ and_assoc (test 0) (all_below (λ k. test (suc k)) n) (test (suc n))

any_front : (test : ℕ → Bool) (n : ℕ) → any_below test (suc n) ≡ (test 0 || any_below (λ k. test (suc k)) n)
any_front test zero = sym (or_false (test 0))
any_front test (suc n) = ap (λ b. b || test (suc n)) (any_front test n) ∙ or_assoc (test 0) (any_below (λ k. test (suc k)) n) (test (suc n))

-- a test of all elements tests all places
pub all_places : {X : Type 0} (p : X → Bool) (xs : List X) (d : X) → list_all p xs ≡ all_below (λ k. p (slice_index_or xs k d)) (length xs)
all_places p [] d = refl
all_places p (x ∷ xs) d = ap (λ b. p x && b) (all_places p xs d) ∙ sym (all_front (λ k. p (slice_index_or (x ∷ xs) k d)) (length xs))

pub any_places : {X : Type 0} (p : X → Bool) (xs : List X) (d : X) → list_any p xs ≡ any_below (λ k. p (slice_index_or xs k d)) (length xs)
any_places p [] d = refl
any_places p (x ∷ xs) d = ap (λ b. p x || b) (any_places p xs d) ∙ sym (any_front (λ k. p (slice_index_or (x ∷ xs) k d)) (length xs))
