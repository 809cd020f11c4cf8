-- A row divided, and the division undone.
use Rattle.std.proofs.Common.{◌≡◌, ℕ, zero, suc, ◌+◌, ◌<◌, ◌≤◌, List, [], ◌∷◌, length, take, set, map, ℤ, pos, ◌*ℤ◌, ◌<ℤ◌, unsigned_abs, All, SFits, to_z, of_z, to_z-of_z, refl, sym, ap, ap₂, subst, subst₂, ◌∙◌, inl, inr, eq-or-lt_of_le, arith}
use Rattle.std.specs.Int.{◌∣◌, w128, IsGcd}
use Rattle.std.proofs.lemmas.List.{length-map}
use Rattle.std.specs.List.{Contains}
use Rattle.std.proofs.lemmas.Nat.Gcd.{dvd_antisymm, le_of_dvd}
use Rattle.std.proofs.lemmas.List.Elements.{All-nil, All-cons, All-head, All-tail, All-contains}
use Rattle.std.proofs.Math.Nat.{eq-zero_of_zero-dvd}
use Rattle.row_definitions.specs.Rows.{entry, row_divisor, divided, primitive_row}
use Rattle.row_definitions.specs.Combination.{FitsEntry}
use Rattle.row_definitions.proofs.Divisors.{Divides, row_divisor_is, All-from_Divides, Divides-from_All}
use Rattle.row_definitions.proofs.Primitives.{primitive_row-undivided}
use Rattle.row_definitions.proofs.Combinations.{entry-divided}
use Rattle.fraction_rows.specs.BitLengths.{HasBits}
use Rattle.fraction_rows.proofs.Written.{written, set-written, entry-written}
use Rattle.fraction_rows.proofs.Scan.{Divides-more}
use Rattle.fraction_rows.proofs.Inverses.{multiplied_back}

-- the quotients times the divisor
pub undivided : (d : ℤ) (row : List ℤ) → pos 0 <ℤ d → Divides (unsigned_abs d) row → map (λ y. y *ℤ d) (map (divided (unsigned_abs d)) row) ≡ row
undivided d [] above h = refl
undivided d (x ∷ row) above h = ap₂ (λ y ys. y ∷ ys) (multiplied_back d x above h.0) (undivided d row above h.1)

-- fit where the entries do
pub FitsEntry-undivided : (d : ℤ) (row : List ℤ) → pos 0 <ℤ d → Divides (unsigned_abs d) row → All FitsEntry row → All (λ y. FitsEntry (y *ℤ d)) (map (divided (unsigned_abs d)) row)
FitsEntry-undivided d [] above h fits = All-nil (λ y. FitsEntry (y *ℤ d))
FitsEntry-undivided d (x ∷ row) above h fits =
    All-cons (λ y. FitsEntry (y *ℤ d)) (divided (unsigned_abs d) x) (map (divided (unsigned_abs d)) row) (subst FitsEntry (sym (multiplied_back d x above h.0)) (All-head FitsEntry x row fits))
    (FitsEntry-undivided d row above h.1 (All-tail FitsEntry x row fits))

-- a common divisor that is a multiple of the greatest is the greatest
pub primitive-from_quotients : (old row new : List ℤ) (d g : ℕ) → row ≡ old → row_divisor old ∣ g → d ≡ g → All (λ x. d ∣ unsigned_abs x) row → new ≡ map (divided d) row → new ≡ primitive_row old
primitive-from_quotients old row new d g same multiple is divides value =
    let each = Divides-from_All d old (subst (All (λ x. d ∣ unsigned_abs x)) same divides) in
    let greatest : d ≡ row_divisor old = dvd_antisymm ((row_divisor_is old).1 d each) (subst (λ n. row_divisor old ∣ n) (sym is) multiple) in
    value ∙ ap₂ (λ n r. map (divided n) r) greatest same

-- a multiple of the greatest is one still when it is lowered by an entry
pub multiple-lowered : (old row : List ℤ) (x : ℤ) (e d g : ℕ) → row ≡ old → row_divisor old ∣ d → Contains row x → e ≡ unsigned_abs x → IsGcd e d g → row_divisor old ∣ g
multiple-lowered old row x e d g same multiple within is gcd =
    let divides : row_divisor old ∣ unsigned_abs x = All-contains (λ y. row_divisor old ∣ unsigned_abs y) old x (All-from_Divides (row_divisor old) old (row_divisor_is old).0) (subst (λ r. Contains r x) same within) in
    gcd.2 (row_divisor old) (subst (λ n. row_divisor old ∣ n) (sym is) divides) multiple

-- the quotients have so many bits, where each quotient of a number of the row has
pub All-quotients : (d bits after : ℕ) (row : List ℤ) → ((x : ℤ) → HasBits bits x → d ∣ unsigned_abs x → HasBits after (divided d x)) → All (HasBits bits) row → Divides d row → All (HasBits after) (map (divided d) row)
All-quotients d bits after [] each has divides = All-nil (HasBits after)
All-quotients d bits after (x ∷ row) each has divides =
    All-cons (HasBits after) (divided d x) (map (divided d) row) (each x (All-head (HasBits bits) x row has) divides.0) (All-quotients d bits after row each (All-tail (HasBits bits) x row has) divides.1)

-- a number that does not divide another is above the common divisor of both
pub lowered : (x : ℤ) (f e d g : ℕ) → 1 < d → f ≡ d → ¬ (f ∣ unsigned_abs x) → e ≡ unsigned_abs x → IsGcd e d g → g < d
lowered x f e d g above same fails is gcd =
    elim (eq-or-lt_of_le (le_of_dvd (omega arith) gcd.1)) [
      | inl whole ↦ absurd (fails (subst₂ (λ m n. m ∣ n) (whole ∙ sym same) is gcd.0))
      | inr less ↦ less
    ]

-- and is not 0
pub lowered-some : (e d g : ℕ) → 1 < d → IsGcd e d g → ¬ (g ≡ 0)
lowered-some e d g above gcd none =
    let all : d ≡ 0 = eq-zero_of_zero-dvd (subst (λ n. n ∣ d) none gcd.1) in omega arith

-- a row whose greatest divisor is at most 1
pub primitive-undivided : (old row : List ℤ) (d : ℕ) → row ≡ old → row_divisor old ∣ d → (d ≡ 0 → row_divisor old ≡ 0) → d ≤ 1 → row ≡ primitive_row old
primitive-undivided old row zero same multiple zeros h = same ∙ sym (primitive_row-undivided old (let none = zeros refl in omega arith))
primitive-undivided old row (suc zero) same multiple zeros h = same ∙ sym (primitive_row-undivided old (le_of_dvd (omega arith) multiple))
primitive-undivided old row (suc (suc d)) same multiple zeros h = absurd (omega arith)

-- one more quotient is written
pub divided_more : (d : ℕ) (old row : List ℤ) (i : ℕ) (q : ℤ) → row ≡ written (map (divided d) old) old i → i < length old → SFits w128 (entry row i) → SFits w128 q → q ≡ divided d (to_z w128 (of_z w128 (entry row i)))
    → set row i (to_z w128 (of_z w128 q)) ≡ written (map (divided d) old) old (i + 1)
divided_more d old row i q so_far within x_fits q_fits is =
    let n = length-map old (divided d) in
    let x_is = to_z-of_z x_fits ∙ ap (λ r. entry r i) so_far ∙ entry-written (map (divided d) old) old i n within in
    ap (λ r. set r i (to_z w128 (of_z w128 q))) so_far ∙ set-written (map (divided d) old) old i _ n within (to_z-of_z q_fits ∙ is ∙ ap (divided d) x_is ∙ sym (entry-divided d old i))

-- and one more entry is a multiple
pub divides_more : (d : ℕ) (old row : List ℤ) (i : ℕ) → row ≡ written (map (divided d) old) old i → i < length old → SFits w128 (entry row i) → Divides d (take i old) → d ∣ unsigned_abs (to_z w128 (of_z w128 (entry row i))) → Divides d (take (i + 1) old)
divides_more d old row i so_far within x_fits before divides =
    Divides-more d old i within before (subst (λ z. d ∣ unsigned_abs z) (to_z-of_z x_fits ∙ ap (λ r. entry r i) so_far ∙ entry-written (map (divided d) old) old i (length-map old (divided d)) within) divides)
