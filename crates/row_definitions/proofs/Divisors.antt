-- The divisor of a row is the greatest common divisor of its entries, in the order of divisibility too.
use Rattle.std.proofs.Common.{◌≡◌, ℕ, zero, suc, ◌%◌, ◌<◌, ◌≤◌, Bool, true, false, cond, ◌&&◌, ◌==◌, List, [], ◌∷◌, ℤ, unsigned_abs, sum_by, All, refl, sym, ap, subst, ◌∙◌, arith, mod-lt, le_antisymm, inl, inr, eq-or-lt_of_le, true≢false, suc-ne-zero}
use Rattle.std.specs.Int.{◌∣◌, IsGcd}
use Rattle.std.proofs.lemmas.Nat.Gcd.{IsGcd-from_zero, IsGcd-from_mod, dvd_refl, dvd-zero, dvd_trans, le_of_dvd, dvd_of_mod-eq-zero, mod-eq-zero_of_dvd}
use Rattle.std.proofs.lemmas.List.Sums.{sum_by-cons}
use Rattle.std.proofs.lemmas.List.Elements.{All-nil, All-cons, All-head, All-tail}
use Rattle.std.proofs.Math.Nat.{dvd-add, eq-zero_of_zero-dvd}
use Rattle.std.proofs.lemmas.Bool.Decides.{nat_tests}
use Rattle.row_definitions.specs.Rows.{entry, divides_each, greatest_to, row_divisor}

-- a number divides each entry
abbrev pub Divides : ℕ → List ℤ → Type 0
Divides d [] = Unit {0}
Divides d (x ∷ row) = (d ∣ unsigned_abs x) × Divides d row

-- a common divisor that each common divisor divides
abbrev pub IsRowGcd : List ℤ → ℕ → Type 0
IsRowGcd row g = Divides g row × ((d : ℕ) → Divides d row → d ∣ g)

-- ---- the test

both : (a b : Bool) → (a && b) ≡ true → (a ≡ true) × (b ≡ true)
both true b h = (refl, h)
both false b h = absurd (cc)

joined : (a b : Bool) → a ≡ true → b ≡ true → (a && b) ≡ true
joined a b p q = ap (λ c. c && b) p ∙ q

is_zero : (n : ℕ) → (n == 0) ≡ true → n ≡ 0
is_zero n h = grind (arith, nat_tests)

zero_is : (n : ℕ) → n ≡ 0 → (n == 0) ≡ true
zero_is n h = grind (arith, nat_tests)

pub Divides-from_test : (d : ℕ) (row : List ℤ) → divides_each d row ≡ true → Divides d row
Divides-from_test d [] h = tt
Divides-from_test d (x ∷ row) h =
    let parts = both (unsigned_abs x % d == 0) (divides_each d row) h in
    (dvd_of_mod-eq-zero d (is_zero (unsigned_abs x % d) parts.0), Divides-from_test d row parts.1)

pub test_from_Divides : (d : ℕ) (row : List ℤ) → Divides d row → divides_each d row ≡ true
test_from_Divides d [] h = refl
test_from_Divides d (x ∷ row) h =
    joined (unsigned_abs x % d == 0) (divides_each d row) (zero_is (unsigned_abs x % d) (mod-eq-zero_of_dvd d h.0)) (test_from_Divides d row h.1)

-- ---- the search

pub greatest_to-le : (test : ℕ → Bool) (limit : ℕ) → greatest_to test limit ≤ limit
greatest_to-le test zero = omega arith
greatest_to-le test (suc limit) =
    let rest = greatest_to-le test limit in
    elim (test (suc limit)) as (λ b. cond b (suc limit) (greatest_to test limit) ≤ suc limit) [ true ↦ omega arith | false ↦ omega arith ]

pub greatest_to_passes : (test : ℕ → Bool) (limit : ℕ) → 0 < greatest_to test limit → test (greatest_to test limit) ≡ true
greatest_to_passes test zero h = absurd (omega arith)
greatest_to_passes test (suc limit) h = passes_by (greatest_to_passes test limit) (test (suc limit)) refl h
  where
    passes_by : (0 < greatest_to test limit → test (greatest_to test limit) ≡ true) → (b : Bool) → test (suc limit) ≡ b → 0 < cond b (suc limit) (greatest_to test limit) → test (cond b (suc limit) (greatest_to test limit)) ≡ true
    passes_by rest true e h = e
    passes_by rest false e h = rest h

below-failing : (test : ℕ → Bool) (limit k : ℕ) → k ≤ suc limit → test k ≡ true → test (suc limit) ≡ false → k ≤ limit
below-failing test limit k h t e =
    elim (eq-or-lt_of_le h) [
      | inl same ↦ absurd (true≢false (sym t ∙ ap test same ∙ e))
      | inr less ↦ omega arith
    ]

pub le-greatest_to : (test : ℕ → Bool) (limit k : ℕ) → k ≤ limit → 0 < k → test k ≡ true → k ≤ greatest_to test limit
le-greatest_to test zero k h p t = absurd (omega arith)
le-greatest_to test (suc limit) k h p t = le_by (λ b. le-greatest_to test limit k b p t) (test (suc limit)) refl
  where
    le_by : (k ≤ limit → k ≤ greatest_to test limit) → (b : Bool) → test (suc limit) ≡ b → k ≤ cond b (suc limit) (greatest_to test limit)
    le_by rest true e = h
    le_by rest false e = rest (below-failing test limit k h t e)

-- ---- greatest common divisors exist

gcd_within : (fuel a b : ℕ) → b ≤ fuel → (g : ℕ) × IsGcd a b g
gcd_within fuel a zero h = (a, IsGcd-from_zero a zero refl)
gcd_within zero a (suc b) h = absurd (omega arith)
gcd_within (suc fuel) a (suc b) h =
    let below : a % suc b < suc b = mod-lt a (omega arith) in
    let rest = gcd_within fuel (suc b) (a % suc b) (omega arith) in
    (rest.0, IsGcd-from_mod a (suc b) rest.0 rest.1)

pub gcd_exists : (a b : ℕ) → (g : ℕ) × IsGcd a b g
gcd_exists a b = gcd_within b a b (omega arith)

-- one more entry
pub IsRowGcd-cons : (x : ℤ) (row : List ℤ) (g h : ℕ) → IsRowGcd row h → IsGcd (unsigned_abs x) h g → IsRowGcd (x ∷ row) g
IsRowGcd-cons x row g h is step =
    ((step.0, Divides-down row g h step.1 is.0), λ d w. step.2 d w.0 (is.1 d w.1))
  where
    Divides-down : (row : List ℤ) (d e : ℕ) → d ∣ e → Divides e row → Divides d row
    Divides-down [] d e h w = tt
    Divides-down (x ∷ row) d e h w = (dvd_trans d h w.0, Divides-down row d e h w.1)

row_gcd_exists : (row : List ℤ) → (g : ℕ) × IsRowGcd row g
row_gcd_exists [] = (0, (tt, λ d w. dvd-zero d))
row_gcd_exists (x ∷ row) =
    let rest = row_gcd_exists row in
    let step = gcd_exists (unsigned_abs x) rest.0 in
    (step.0, IsRowGcd-cons x row step.0 rest.0 rest.1 step.1)

-- ---- and the divisor is it

Divides-sum : (d : ℕ) (row : List ℤ) → Divides d row → d ∣ sum_by unsigned_abs row
Divides-sum d [] h = dvd-zero d
Divides-sum d (x ∷ row) h =
    subst (λ s. d ∣ s) (sym (sum_by-cons unsigned_abs x row)) (dvd-add d h.0 (Divides-sum d row h.1))

zeros_of_sum : (row : List ℤ) → sum_by unsigned_abs row ≡ 0 → Divides 0 row
zeros_of_sum [] h = tt
zeros_of_sum (x ∷ row) h =
    let e = sum_by-cons unsigned_abs x row in
    let head : unsigned_abs x ≡ 0 = omega arith in
    let rest : sum_by unsigned_abs row ≡ 0 = omega arith in
    (subst (λ n. 0 ∣ n) (sym head) (dvd_refl 0), zeros_of_sum row rest)

above_zero_from_dvd : (g s : ℕ) → g ∣ suc s → 0 < g
above_zero_from_dvd zero s h = absurd (suc-ne-zero s (eq-zero_of_zero-dvd h))
above_zero_from_dvd (suc g) s h = omega arith

greatest_is : (row : List ℤ) (g s : ℕ) → IsRowGcd row g → s ≡ sum_by unsigned_abs row → greatest_to (λ d. divides_each d row) s ≡ g
greatest_is row g zero is e = sym (eq-zero_of_zero-dvd (is.1 0 (zeros_of_sum row (sym e))))
greatest_is row g (suc s) is e =
    let test : ℕ → Bool = λ d. divides_each d row in
    let in_sum : g ∣ suc s = subst (λ n. g ∣ n) (sym e) (Divides-sum g row is.0) in
    let above : 0 < g = above_zero_from_dvd g s in_sum in
    let least : g ≤ greatest_to test (suc s) = le-greatest_to test (suc s) g (le_of_dvd (omega arith) in_sum) above (test_from_Divides g row is.0) in
    let passes = Divides-from_test (greatest_to test (suc s)) row (greatest_to_passes test (suc s) (omega arith)) in
    le_antisymm (le_of_dvd above (is.1 (greatest_to test (suc s)) passes)) least

row_divisor-eq : (row : List ℤ) (g : ℕ) → IsRowGcd row g → row_divisor row ≡ g
unfolding row_divisor
row_divisor-eq row g is = greatest_is row g (sum_by unsigned_abs row) is refl

-- the divisor of a row divides each entry, and each common divisor divides it
pub row_divisor_is : (row : List ℤ) → IsRowGcd row (row_divisor row)
row_divisor_is row =
    let some = row_gcd_exists row in
    subst (λ g. IsRowGcd row g) (sym (row_divisor-eq row some.0 some.1)) some.1

-- no other number does
pub row_divisor_from : (row : List ℤ) (g : ℕ) → IsRowGcd row g → g ≡ row_divisor row
row_divisor_from row g is = sym (row_divisor-eq row g is)

-- ---- by columns

pub Divides-entry : (d : ℕ) (row : List ℤ) (column : ℕ) → Divides d row → d ∣ unsigned_abs (entry row column)
Divides-entry d [] column h = dvd-zero d
Divides-entry d (x ∷ row) zero h = h.0
Divides-entry d (x ∷ row) (suc column) h = Divides-entry d row column h.1

pub Divides-from_All : (d : ℕ) (row : List ℤ) → All (λ x. d ∣ unsigned_abs x) row → Divides d row
Divides-from_All d [] h = tt
Divides-from_All d (x ∷ row) h =
    (All-head (λ x. d ∣ unsigned_abs x) x row h, Divides-from_All d row (All-tail (λ x. d ∣ unsigned_abs x) x row h))

pub All-from_Divides : (d : ℕ) (row : List ℤ) → Divides d row → All (λ x. d ∣ unsigned_abs x) row
All-from_Divides d [] h = All-nil (λ x. d ∣ unsigned_abs x)
All-from_Divides d (x ∷ row) h =
    All-cons (λ x. d ∣ unsigned_abs x) x row h.0 (All-from_Divides d row h.1)
