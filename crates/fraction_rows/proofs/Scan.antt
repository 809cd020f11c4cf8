-- The greatest common divisor of the entries read so far.
use Rattle.std.proofs.Common.{◌≡◌, ℕ, zero, suc, ◌+◌, ◌<◌, ◌≤◌, List, [], ◌∷◌, ◌++◌, length, take, ℤ, pos, unsigned_abs, subst, sym, ◌^◌, ◌⊎◌, inl, inr, All, ◌<ℤ◌, eq-zero-or-pos, lt_of_le_of_lt, lit<}
use Rattle.std.specs.Int.{◌∣◌, IsGcd}
use Rattle.std.proofs.lemmas.Nat.Gcd.{dvd_trans, dvd_refl, dvd-zero, le_of_dvd}
use Rattle.std.proofs.lemmas.List.Elements.{All-take, All-nil, All-cons, All-head, All-tail}
use Rattle.std.proofs.lemmas.List.{take_more, take_all}
use Rattle.std.proofs.Math.Nat.{eq-zero_of_zero-dvd}
use Rattle.row_definitions.specs.Rows.{entry, row_divisor}
use Rattle.row_definitions.specs.Combination.{FitsEntry}
use Rattle.row_definitions.proofs.Numbers.{zero_from_size}
use Rattle.row_definitions.proofs.Divisors.{Divides, IsRowGcd, row_divisor_is, row_divisor_from}
use Rattle.row_definitions.proofs.Primitives.{row_divisor-pos}
use Rattle.row_definitions.proofs.Combinations.{size-pos}

Divides-push : (d : ℕ) (row : List ℤ) (x : ℤ) → Divides d row → d ∣ unsigned_abs x → Divides d (row ++ x ∷ [])
Divides-push d [] x h w = (w, tt)
Divides-push d (y ∷ row) x h w = (h.0, Divides-push d row x h.1 w)

pub Divides-more : (d : ℕ) (row : List ℤ) (i : ℕ) → i < length row → Divides d (take i row) → d ∣ unsigned_abs (entry row i) → Divides d (take (i + 1) row)
Divides-more d row i below h w = subst (Divides d) (sym (take_more row i (pos 0) below)) (Divides-push d (take i row) (entry row i) h w)

Divides-parts : (d : ℕ) (row : List ℤ) (x : ℤ) → Divides d (row ++ x ∷ []) → Divides d row × (d ∣ unsigned_abs x)
Divides-parts d [] x h = (tt, h.0)
Divides-parts d (y ∷ row) x h = let rest = Divides-parts d row x h.1 in ((h.0, rest.0), rest.1)

Divides-down : (row : List ℤ) (d e : ℕ) → d ∣ e → Divides e row → Divides d row
Divides-down [] d e h w = tt
Divides-down (x ∷ row) d e h w = (dvd_trans d h w.0, Divides-down row d e h w.1)

Divides-take : (d i : ℕ) (row : List ℤ) → Divides d row → Divides d (take i row)
Divides-take d zero row h = tt
Divides-take d (suc i) [] h = tt
Divides-take d (suc i) (x ∷ row) h = (h.0, Divides-take d i row h.1)

IsRowGcd-push : (row : List ℤ) (x : ℤ) (g h : ℕ) → IsRowGcd row h → IsGcd (unsigned_abs x) h g → IsRowGcd (row ++ x ∷ []) g
IsRowGcd-push row x g h is step = (
  Divides-push g row x (Divides-down row g h step.1 is.0) step.0,
  λ d w. let parts = Divides-parts d row x w in step.2 d parts.1 (is.1 d parts.0),
)

-- one more entry is read
pub IsRowGcd-more : (row : List ℤ) (i : ℕ) (g h : ℕ) → i < length row → IsRowGcd (take i row) h → IsGcd (unsigned_abs (entry row i)) h g → IsRowGcd (take (i + 1) row) g
IsRowGcd-more row i g h below is step =
    subst (λ r. IsRowGcd r g) (sym (take_more row i (pos 0) below)) (IsRowGcd-push (take i row) (entry row i) g h is step)

-- one more entry is read, which is 0
pub IsRowGcd-zero : (row : List ℤ) (i d : ℕ) → i < length row → IsRowGcd (take i row) d → entry row i ≡ pos 0 → IsRowGcd (take (i + 1) row) d
IsRowGcd-zero row i d below is zero_there =
    let divides : d ∣ unsigned_abs (entry row i) = subst (λ z. d ∣ unsigned_abs z) (sym zero_there) (dvd-zero d) in
    IsRowGcd-more row i d d below is (divides, dvd_refl d, λ k w h. h)

-- the divisor of the row divides that of the first entries
pub row_divisor-first : (row : List ℤ) (i g : ℕ) → IsRowGcd (take i row) g → row_divisor row ∣ g
row_divisor-first row i g is = is.1 (row_divisor row) (Divides-take (row_divisor row) i row (row_divisor_is row).0)

-- a common divisor of an entry other than 0 is not 0
pub above_zero_at : (x : ℤ) (d g : ℕ) → (x ≡ pos 0 → ⊥) → IsGcd (unsigned_abs x) d g → g ≡ 0 → ⊥
above_zero_at x d g some step none = some (zero_from_size x (eq-zero_of_zero-dvd (subst (λ n. n ∣ unsigned_abs x) none step.0)))

-- all entries are read
pub row_divisor-all : (row : List ℤ) (i g : ℕ) → IsRowGcd (take i row) g → length row ≤ i → g ≡ row_divisor row
row_divisor-all row i g is whole = row_divisor_from row g (subst (λ r. IsRowGcd r g) (take_all i row whole) is)

-- ---- the size of the divisor

below_or_zeros : (g : ℕ) (row : List ℤ) → Divides g row → All FitsEntry row → (g < 2 ^ 127) ⊎ Divides 0 row
below_or_zeros g [] h fits = inr tt
below_or_zeros g (x ∷ row) h fits =
    elim (eq-zero-or-pos (unsigned_abs x)) [
      | inl none ↦
          elim (below_or_zeros g row h.1 (All-tail FitsEntry x row fits)) [
            | inl less ↦ inl less
            | inr zeros ↦ inr (subst (λ n. 0 ∣ n) (sym none) (dvd_refl 0), zeros)
          ]
      | inr some ↦ inl (lt_of_le_of_lt (le_of_dvd some h.0) (All-head FitsEntry x row fits))
    ]

-- the divisor fits where the entries do
pub row_divisor-lt : (row : List ℤ) → All FitsEntry row → row_divisor row < 2 ^ 127
row_divisor-lt row fits =
    let is = row_divisor_is row in
    elim (below_or_zeros (row_divisor row) row is.0 fits) [
      | inl less ↦ less
      | inr zeros ↦ subst (λ n. n < 2 ^ 127) (sym (eq-zero_of_zero-dvd (is.1 0 zeros))) (lit< tt)
    ]

-- ---- with a bound ahead of the entries

-- before an entry is read
pub bounded-none : (bound : ℕ) → IsRowGcd (pos bound ∷ []) bound
bounded-none bound = ((dvd_refl bound, tt), λ d w. w.0)

-- one more entry is read
pub bounded-more : (bound : ℕ) (row : List ℤ) (i g h : ℕ) → i < length row → IsRowGcd (pos bound ∷ take i row) h → IsGcd (unsigned_abs (entry row i)) h g → IsRowGcd (pos bound ∷ take (i + 1) row) g
bounded-more bound row i g h below is step =
    subst (λ r. IsRowGcd (pos bound ∷ r) g) (sym (take_more row i (pos 0) below)) (IsRowGcd-push (pos bound ∷ take i row) (entry row i) g h is step)

-- one more entry is read, which is 0
pub bounded-zero : (bound : ℕ) (row : List ℤ) (i d : ℕ) → i < length row → IsRowGcd (pos bound ∷ take i row) d → entry row i ≡ pos 0 → IsRowGcd (pos bound ∷ take (i + 1) row) d
bounded-zero bound row i d below is zero_there =
    let divides : d ∣ unsigned_abs (entry row i) = subst (λ z. d ∣ unsigned_abs z) (sym zero_there) (dvd-zero d) in
    bounded-more bound row i d d below is (divides, dvd_refl d, λ k w h. h)

-- the divisor of the row divides that of the bound and the first entries
pub bounded-first : (bound : ℕ) (row : List ℤ) (i g : ℕ) → row_divisor row ∣ bound → IsRowGcd (pos bound ∷ take i row) g → row_divisor row ∣ g
bounded-first bound row i g divides is = is.1 (row_divisor row) (divides, Divides-take (row_divisor row) i row (row_divisor_is row).0)

-- it is 0 only of zeros, when all entries are read
pub bounded-all : (bound : ℕ) (row : List ℤ) (i g : ℕ) → IsRowGcd (pos bound ∷ take i row) g → length row ≤ i → g ≡ 0 → row_divisor row ≡ 0
bounded-all bound row i g is whole none =
    eq-zero_of_zero-dvd ((row_divisor_is row).1 0 (subst (Divides 0) (take_all i row whole) (subst (λ d. Divides d (take i row)) none is.0.1)))

-- and it fits where the bound and the entries do
pub bounded-lt : (bound : ℕ) (row : List ℤ) (i d : ℕ) → bound < 2 ^ 127 → All FitsEntry row → IsRowGcd (pos bound ∷ take i row) d → d < 2 ^ 127
bounded-lt bound row i d bound_fits fits is =
    subst (λ n. n < 2 ^ 127) (sym (row_divisor_from (pos bound ∷ take i row) d is)) (row_divisor-lt (pos bound ∷ take i row) (All-cons FitsEntry (pos bound) (take i row) bound_fits (All-take FitsEntry i row fits)))

-- ---- two numbers

pub row_divisor-pair : (x y : ℤ) (g : ℕ) → IsGcd (unsigned_abs x) (unsigned_abs y) g → g ≡ row_divisor (x ∷ y ∷ [])
row_divisor-pair x y g is = row_divisor_from (x ∷ y ∷ []) g ((is.0, (is.1, tt)), λ d w. is.2 d w.0 w.1.0)

-- ---- the size of the divisor, and of that of the first entries

pub IsRowGcd-lt : (row : List ℤ) (i d : ℕ) → All FitsEntry row → IsRowGcd (take i row) d → d < 2 ^ 127
IsRowGcd-lt row i d fits is = subst (λ n. n < 2 ^ 127) (sym (row_divisor_from (take i row) d is)) (row_divisor-lt (take i row) (All-take FitsEntry i row fits))

pub FitsEntry-pair : (x y : ℤ) → FitsEntry x → FitsEntry y → All FitsEntry (x ∷ y ∷ [])
FitsEntry-pair x y p q = All-cons FitsEntry x (y ∷ []) p (All-cons FitsEntry y [] q (All-nil FitsEntry))

-- the divisor of two numbers is above 0 where the first is
pub row_divisor-pair-pos : (x y : ℤ) → pos 0 <ℤ x → 0 < row_divisor (x ∷ y ∷ [])
row_divisor-pair-pos x y h = row_divisor-pos (x ∷ y ∷ []) (0, size-pos x h)
