-- Different lists of rising numbers are few: those that begin with the lowest number are as many as their rests, which leave
-- that number out, and the others leave it out too.
use Rattle.std.proofs.Common.{◌≡◌, ◌≢◌, ℕ, zero, suc, ◌+◌, ◌<◌, ◌≤◌, ◌==◌, cond, List, [], ◌∷◌, length, refl, sym, ap₂, ◌∙◌, subst, arith}
use Rattle.std.specs.List.{All, AllPairs}
use Rattle.std.proofs.lemmas.List.Elements.{All-nil, All-cons, All-head, All-tail, All-weaker}
use Rattle.std.proofs.lemmas.List.Kept.{AllPairs-cons}
use Rattle.bland_laws.proofs.NumberTests.{by_test}
use Rattle.bland_laws.specs.Ways.{ways, IsWay}
use Rattle.bland_laws.specs.Laws.{FewBases}

pub AllPairs-head : {X : Type 0} (R : X → X → Type 0) (x : X) (xs : List X) → AllPairs R (x ∷ xs) → All (R x) xs
AllPairs-head R x xs pairs = λ k d h. pairs 0 (suc k) d (omega arith) (omega arith)

pub AllPairs-tail : {X : Type 0} (R : X → X → Type 0) (x : X) (xs : List X) → AllPairs R (x ∷ xs) → AllPairs R xs
AllPairs-tail R x xs pairs = λ i j d h k. pairs (suc i) (suc j) d (omega arith) (omega arith)

AllPairs-nil : {X : Type 0} (R : X → X → Type 0) → AllPairs R []
AllPairs-nil R = λ i j d h k. absurd (omega arith)

-- ---- the lists that begin with a number, and the others

heads : ℕ → List (List ℕ) → List (List ℕ)
heads low [] = []
heads low ([] ∷ lists) = heads low lists
heads low ((x ∷ xs) ∷ lists) = cond (x == low) (xs ∷ heads low lists) (heads low lists)

others : ℕ → List (List ℕ) → List (List ℕ)
others low [] = []
others low ([] ∷ lists) = [] ∷ others low lists
others low ((x ∷ xs) ∷ lists) = cond (x == low) (others low lists) ((x ∷ xs) ∷ others low lists)

length-split : (low : ℕ) (lists : List (List ℕ)) → length lists ≡ length (heads low lists) + length (others low lists)
unfolding heads others
length-split low [] = refl
length-split low ([] ∷ lists) = omega (arith, length-split low lists)
length-split low ((x ∷ xs) ∷ lists) =
    let rest = length-split low lists in
    by_test (λ b. suc (length lists) ≡ length (cond b (xs ∷ heads low lists) (heads low lists)) + length (cond b (others low lists) ((x ∷ xs) ∷ others low lists))) x low
    (λ e. omega (arith, rest)) (λ ne. omega (arith, rest))

heads-all : (P Q : List ℕ → Type 0) (low : ℕ) (lists : List (List ℕ)) → All Q lists → ((xs : List ℕ) → Q (low ∷ xs) → P xs) → All P (heads low lists)
unfolding heads
heads-all P Q low [] all give = All-nil P
heads-all P Q low ([] ∷ lists) all give = heads-all P Q low lists (All-tail Q [] lists all) give
heads-all P Q low ((x ∷ xs) ∷ lists) all give =
    let rest = heads-all P Q low lists (All-tail Q (x ∷ xs) lists all) give in
    by_test (λ b. All P (cond b (xs ∷ heads low lists) (heads low lists))) x low
    (λ e. All-cons P xs (heads low lists) (give xs (subst (λ y. Q (y ∷ xs)) e (All-head Q (x ∷ xs) lists all))) rest)
    (λ ne. rest)

others-all : (P Q : List ℕ → Type 0) (low : ℕ) (lists : List (List ℕ)) → All Q lists → (Q [] → P []) → ((x : ℕ) (xs : List ℕ) → x ≢ low → Q (x ∷ xs) → P (x ∷ xs)) → All P (others low lists)
unfolding others
others-all P Q low [] all none some = All-nil P
others-all P Q low ([] ∷ lists) all none some = All-cons P [] (others low lists) (none (All-head Q [] lists all)) (others-all P Q low lists (All-tail Q [] lists all) none some)
others-all P Q low ((x ∷ xs) ∷ lists) all none some =
    let rest = others-all P Q low lists (All-tail Q (x ∷ xs) lists all) none some in
    by_test (λ b. All P (cond b (others low lists) ((x ∷ xs) ∷ others low lists))) x low
    (λ e. rest)
    (λ ne. All-cons P (x ∷ xs) (others low lists) (some x xs ne (All-head Q (x ∷ xs) lists all)) rest)

-- the lists differ from one another
abbrev Differ : List (List ℕ) → Type 0
Differ lists = AllPairs (λ x y. x ≢ y) lists

heads-differ : (low : ℕ) (lists : List (List ℕ)) → Differ lists → Differ (heads low lists)
unfolding heads
heads-differ low [] pairs = AllPairs-nil (λ u v. u ≢ v)
heads-differ low ([] ∷ lists) pairs = heads-differ low lists (AllPairs-tail (λ u v. u ≢ v) [] lists pairs)
heads-differ low ((x ∷ xs) ∷ lists) pairs =
    let rest = heads-differ low lists (AllPairs-tail (λ u v. u ≢ v) (x ∷ xs) lists pairs) in
    by_test (λ b. AllPairs (λ u v. u ≢ v) (cond b (xs ∷ heads low lists) (heads low lists))) x low
    (λ e. AllPairs-cons (λ u v. u ≢ v) xs (heads low lists)
    (heads-all (λ ys. xs ≢ ys) (λ ys. (x ∷ xs) ≢ ys) low lists (AllPairs-head (λ u v. u ≢ v) (x ∷ xs) lists pairs) (λ ys ne same. ne (ap₂ (λ y zs. y ∷ zs) e same)))
    rest)
    (λ ne. rest)

others-differ : (low : ℕ) (lists : List (List ℕ)) → Differ lists → Differ (others low lists)
unfolding others
others-differ low [] pairs = AllPairs-nil (λ u v. u ≢ v)
others-differ low ([] ∷ lists) pairs =
    AllPairs-cons (λ u v. u ≢ v) [] (others low lists)
    (others-all (λ ys. [] ≢ ys) (λ ys. [] ≢ ys) low lists (AllPairs-head (λ u v. u ≢ v) [] lists pairs) (λ h. h) (λ y ys ne h. h))
    (others-differ low lists (AllPairs-tail (λ u v. u ≢ v) [] lists pairs))
others-differ low ((x ∷ xs) ∷ lists) pairs =
    let rest = others-differ low lists (AllPairs-tail (λ u v. u ≢ v) (x ∷ xs) lists pairs) in
    by_test (λ b. AllPairs (λ u v. u ≢ v) (cond b (others low lists) ((x ∷ xs) ∷ others low lists))) x low
    (λ e. rest)
    (λ ne. AllPairs-cons (λ u v. u ≢ v) (x ∷ xs) (others low lists)
    (others-all (λ ys. (x ∷ xs) ≢ ys) (λ ys. (x ∷ xs) ≢ ys) low lists (AllPairs-head (λ u v. u ≢ v) (x ∷ xs) lists pairs) (λ h. h) (λ y ys ne' h. h))
    rest)

-- ---- rising numbers from one on

-- `k` rising numbers from `low` on and below `low + n`
record Rises (low n k : ℕ) (xs : List ℕ) : Type 0 where
  rising : AllPairs (λ x y. x < y) xs
  from : All (λ x. low ≤ x) xs
  below : All (λ x. x < low + n) xs
  count : length xs ≡ k

-- the rest of a list that begins with the lowest number
rises-rest : (low n k : ℕ) (xs : List ℕ) → Rises low (suc n) (suc k) (low ∷ xs) → Rises (suc low) n k xs
rises-rest low n k xs is = record {
  rising = AllPairs-tail (λ x y. x < y) low xs is.rising;
  from = All-weaker (λ y. low < y) (λ y. suc low ≤ y) (λ y h. omega arith) xs (AllPairs-head (λ x y. x < y) low xs is.rising);
  below = All-weaker (λ y. y < low + suc n) (λ y. y < suc low + n) (λ y h. omega arith) xs (All-tail (λ y. y < low + suc n) low xs is.below);
  count = let e = is.count in omega (arith, e);
}

-- a list that begins with another
rises-without : (low n k x : ℕ) (xs : List ℕ) → x ≢ low → Rises low (suc n) (suc k) (x ∷ xs) → Rises (suc low) n (suc k) (x ∷ xs)
rises-without low n k x xs differ is =
    let first : low ≤ x = All-head (λ y. low ≤ y) x xs is.from in record {
      rising = is.rising;
      from = All-cons (λ y. suc low ≤ y) x xs (omega arith) (All-weaker (λ y. x < y) (λ y. suc low ≤ y) (λ y h. omega arith) xs (AllPairs-head (λ x y. x < y) x xs is.rising));
      below = All-weaker (λ y. y < low + suc n) (λ y. y < suc low + n) (λ y h. omega arith) (x ∷ xs) is.below;
      count = is.count;
    }

no_numbers : (low n : ℕ) (xs : List ℕ) → Rises low n zero xs → xs ≡ []
no_numbers low n [] is = refl
no_numbers low n (x ∷ xs) is = let e = is.count in absurd (omega (arith, e))

no_room : (low k : ℕ) (xs : List ℕ) → Rises low zero (suc k) xs → ⊥
no_room low k [] is = let e = is.count in omega (arith, e)
no_room low k (x ∷ xs) is = let low' = All-head (λ y. low ≤ y) x xs is.from in let high = All-head (λ y. y < low + zero) x xs is.below in omega (arith, low', high)

-- ---- induction on the numbers

few : (n low k : ℕ) (lists : List (List ℕ)) → All (Rises low n k) lists → Differ lists → length lists ≤ ways n k
few n low zero [] all differ = omega arith
few n low zero (a ∷ []) all differ = omega arith
few n low zero (a ∷ b ∷ lists) all differ =
    let first = no_numbers low n a (All-head (Rises low n zero) a (b ∷ lists) all) in
    let second = no_numbers low n b (All-head (Rises low n zero) b lists (All-tail (Rises low n zero) a (b ∷ lists) all)) in
    absurd (All-head (λ y. a ≢ y) b lists (AllPairs-head (λ u v. u ≢ v) a (b ∷ lists) differ) (first ∙ sym second))
few zero low (suc k) [] all differ = omega arith
few zero low (suc k) (a ∷ lists) all differ = absurd (no_room low k a (All-head (Rises low zero (suc k)) a lists all))
few (suc n) low (suc k) lists all differ =
    let with_low = few n (suc low) k (heads low lists) (heads-all (Rises (suc low) n k) (Rises low (suc n) (suc k)) low lists all (rises-rest low n k)) (heads-differ low lists differ) in
    let without = few n (suc low) (suc k) (others low lists)
    (others-all (Rises (suc low) n (suc k)) (Rises low (suc n) (suc k)) low lists all (λ is. let e = is.count in absurd (omega (arith, e))) (rises-without low n k))
    (others-differ low lists differ) in
    omega (arith, length-split low lists, with_low, without)

pub few_bases : FewBases
few_bases n k lists all differ =
    few n 0 k lists
    (All-weaker (IsWay n k) (Rises 0 n k) (λ xs is. record { rising = is.rising; from = λ i d h. omega arith; below = All-weaker (λ x. x < n) (λ x. x < 0 + n) (λ x h. omega arith) xs is.below; count = is.count }) lists all)
    differ
