-- The greatest common divisor of numbers by their places, and of a row.
use Rattle.std.proofs.Common.{◌≡◌, ◌≢◌, ℕ, zero, suc, ◌+◌, ◌*◌, ◌/◌, ◌<◌, List, [], ◌∷◌, length, sym, ap, ◌∙◌, subst, arith}
use Rattle.std.specs.Prelude.{unsigned_abs}
use Rattle.std.specs.Int.{◌∣◌, IsGcd}
use Rattle.std.proofs.lemmas.Int.{unsigned_abs-mul}
use Rattle.std.proofs.lemmas.Nat.Gcd.{dvd_trans, dvd-zero}
use Rattle.std.proofs.Math.Nat.{eq-zero_of_zero-dvd, mul-div_cancel_left}
use borrow.Author.Count.{below_more}
use lib.IntN.{ℤ, pos}
use Rattle.row_definitions.specs.Rows.{entry, row_divisor, divided}
use Rattle.row_definitions.proofs.Numbers.{divided-exact, divided-zero, zero_from_size}
use Rattle.row_definitions.proofs.Divisors.{Divides, Divides-entry, row_divisor_from}

-- the number divides each of the first numbers
abbrev pub DividesBelow : (ℕ → ℕ) → ℕ → ℕ → Type 0
DividesBelow f n d = (k : ℕ) → k < n → d ∣ f k

-- the greatest common divisor of the first numbers
pub record IsGcdBelow (f : ℕ → ℕ) (n g : ℕ) : Type 0 where
  pub divides : DividesBelow f n g
  pub greatest : (d : ℕ) → DividesBelow f n d → d ∣ g

pub gcd_none : (f : ℕ → ℕ) → IsGcdBelow f 0 0
gcd_none f = record { divides = λ k h. absurd (omega (arith, h)); greatest = λ d all. dvd-zero d }

pub gcd_more : (f : ℕ → ℕ) (n g h : ℕ) → IsGcdBelow f n h → IsGcd (f n) h g → IsGcdBelow f (n + 1) g
gcd_more f n g h is step = record {
  divides = below_more (λ k. g ∣ f k) n (λ k below. dvd_trans g step.1 (is.divides k below)) step.0;
  greatest = λ d all. step.2 d (all n (omega arith)) (is.greatest d (λ k below. all k (omega (arith, below))));
}

-- ---- of a row

divides_row : (d : ℕ) (row : List ℤ) (f : ℕ → ℕ) → ((k : ℕ) → k < length row → unsigned_abs (entry row k) ≡ f k) → DividesBelow f (length row) d → Divides d row
divides_row d [] f same all = tt
divides_row d (x ∷ row) f same all = (
  subst (λ n. d ∣ n) (sym (same 0 (omega arith))) (all 0 (omega arith)),
  divides_row d row (λ k. f (suc k)) (λ k h. same (suc k) (omega (arith, h))) (λ k h. all (suc k) (omega (arith, h))),
)

pub gcd_row : (row : List ℤ) (f : ℕ → ℕ) (n g : ℕ) → length row ≡ n → ((k : ℕ) → k < n → unsigned_abs (entry row k) ≡ f k) → IsGcdBelow f n g → g ≡ row_divisor row
gcd_row row f n g count same is =
    let each : (k : ℕ) → k < length row → unsigned_abs (entry row k) ≡ f k = λ k h. same k (omega (arith, h, count)) in
    row_divisor_from row g (
      divides_row g row f each (λ k h. is.divides k (omega (arith, h, count))),
      λ d all. is.greatest d (λ k h. subst (λ n. d ∣ n) (same k h) (Divides-entry d row k all)),
    )

-- ---- a size by a divisor

quotient_size : (g n m : ℕ) → n ≢ 0 → g ∣ n → g * m ≡ n → n / g ≡ m
quotient_size zero n m some divides e = absurd (some (eq-zero_of_zero-dvd divides))
quotient_size (suc g) n m some divides e = ap (λ k. k / suc g) (sym e) ∙ mul-div_cancel_left m (omega arith)

pub divided_size : (g : ℕ) (x : ℤ) → unsigned_abs x ≢ 0 → g ∣ unsigned_abs x → unsigned_abs x / g ≡ unsigned_abs (divided g x)
divided_size g x some divides = quotient_size g (unsigned_abs x) (unsigned_abs (divided g x)) some divides (sym (unsigned_abs-mul (pos g) (divided g x)) ∙ ap unsigned_abs (divided-exact g x divides))

pub divided_none : (g : ℕ) (x : ℤ) → unsigned_abs x ≡ 0 → 0 ≡ unsigned_abs (divided g x)
divided_none g x none = sym (ap (λ z. unsigned_abs (divided g z)) (zero_from_size x none) ∙ ap unsigned_abs (divided-zero g))

pub divisor_above : (g n : ℕ) → n ≢ 0 → g ∣ n → 0 < g
divisor_above zero n some divides = absurd (some (eq-zero_of_zero-dvd divides))
divisor_above (suc g) n some divides = omega arith
