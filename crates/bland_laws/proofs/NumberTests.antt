-- What a test of two numbers comes to.
use Rattle.std.proofs.Common.{◌≡◌, ◌≢◌, ℕ, ◌==◌, Bool, true, false, cond, refl, sym, subst, arith}
use Rattle.std.proofs.lemmas.Bool.Decides.{nat_tests}
use Rattle.pivot_definitions.proofs.Ring.{by_eq}

-- what holds of a truth value holds if it does of both
pub by_bool : (P : Bool → Type 0) (b : Bool) → (b ≡ true → P true) → (b ≡ false → P false) → P b
by_bool P true pass fail = pass refl
by_bool P false pass fail = fail refl

-- what holds of a test, from what holds where the numbers are the same and where they differ
pub by_test : (P : Bool → Type 0) (a b : ℕ) → (a ≡ b → P true) → (a ≢ b → P false) → P (a == b)
by_test P a b same differ = by_eq a b
    (λ e. let t : (a == b) ≡ true = grind (arith, nat_tests) in subst P (sym t) (same e))
    (λ ne. let t : (a == b) ≡ false = grind (arith, nat_tests) in subst P (sym t) (differ ne))

pub cond_same : {X : Type 0} (x y : X) (a b : ℕ) → a ≡ b → cond (a == b) x y ≡ x
cond_same x y a b e = by_test (λ c. cond c x y ≡ x) a b (λ _. refl) (λ ne. absurd (ne e))

pub cond_other : {X : Type 0} (x y : X) (a b : ℕ) → a ≢ b → cond (a == b) x y ≡ y
cond_other x y a b differ = by_test (λ c. cond c x y ≡ y) a b (λ e. absurd (differ e)) (λ ne. refl)
