-- A sum over all offers of a sheet, each by the place of its column, is a sum over the columns.
use Rattle.std.proofs.Common.{◌≡◌, ◌≢◌, ℕ, suc, ◌+◌, ◌<◌, ◌≤◌, ◌==◌, Bool, true, false, cond, not, inl, inr, nat_lt, List, [], ◌∷◌, length, map, filter, refl, sym, ap, ap₂, ◌∙◌, arith}
use Rattle.std.specs.Prelude.{Option, Some, None, slice_index_or}
use Rattle.std.specs.List.{enumerate_from, position, position_or_len}
use Rattle.std.proofs.lemmas.Bool.Decides.{nat_tests}
use Rattle.std.proofs.lemmas.Bool.{cases_lt}
use lib.IntN.{ℤ, pos, ◌+ℤ◌}
use Rattle.pivot_definitions.specs.Duality.{sum_below}
use Rattle.pivot_definitions.proofs.Ring.{linear}
use Rattle.scan_types.specs.declared.offer.Offer.{Offer}
use Rattle.judging_laws.proofs.Weights.{sum_front}
use Rattle.judging_laws.proofs.ClassFacts.{Each, each_filter, each_weaker}

-- one place further
abbrev pub later : Option ℕ → Option ℕ
later None = None
later (Some k) = Some (suc k)

-- the place of a number
abbrev pub place : ℕ → List ℕ → Option ℕ
place n numbers = position (λ number. number == n) numbers

-- the place by how many come before it
abbrev placed : ℕ → ℕ → Option ℕ
placed before count = cond (nat_lt before count) (Some before) None

-- how many come before, where the first passes or not
abbrev before : Bool → ℕ → ℕ
before passes rest = cond (not passes) (1 + rest) 0

pub place_here : (n : ℕ) (numbers : List ℕ) → place n (n ∷ numbers) ≡ Some 0
place_here n numbers =
    let rest = position_or_len (λ number. number == n) numbers in
    let same : (n == n) ≡ true = grind (arith, nat_tests) in
    let some : nat_lt 0 (suc (length numbers)) ≡ true = grind (arith, nat_tests) in
    ap (λ b. placed (before b rest) (suc (length numbers))) same ∙ ap (λ b. cond b (Some 0) None) some

placed_later : (rest count : ℕ) → placed (1 + rest) (suc count) ≡ later (placed rest count)
placed_later rest count = elim (cases_lt rest count) [
  | inl less ↦
      (let a : nat_lt (1 + rest) (suc count) ≡ true = grind (arith, nat_tests) in
      let b : nat_lt rest count ≡ true = grind (arith, nat_tests) in
      ap (λ t. cond t (Some (1 + rest)) None) a ∙ ap Some (let e : 1 + rest ≡ suc rest = omega arith in e) ∙ sym (ap (λ t. later (cond t (Some rest) None)) b))
  | inr more ↦
      (let a : nat_lt (1 + rest) (suc count) ≡ false = grind (arith, nat_tests) in
      let b : nat_lt rest count ≡ false = grind (arith, nat_tests) in
      ap (λ t. cond t (Some (1 + rest)) None) a ∙ sym (ap (λ t. later (cond t (Some rest) None)) b))
]

pub place_later : (n m : ℕ) (numbers : List ℕ) → m ≢ n → place n (m ∷ numbers) ≡ later (place n numbers)
place_later n m numbers differ =
    let rest = position_or_len (λ number. number == n) numbers in
    let other : (m == n) ≡ false = grind (arith, nat_tests) in
    ap (λ b. placed (before b rest) (suc (length numbers))) other ∙ placed_later rest (length numbers)

-- a number that does not stand has no place
pub place_none : (n : ℕ) (numbers : List ℕ) → Each (λ m. n < m) numbers → place n numbers ≡ None
place_none n [] each = refl
place_none n (m ∷ numbers) each = place_later n m numbers (let h = each.0 in omega (arith, h)) ∙ ap later (place_none n numbers each.1)

-- the numbers of offers from a number on
abbrev pub numbers_of : List (ℕ × Offer) → List ℕ
numbers_of pairs = map (λ pair. pair.0) pairs

from_on : (n : ℕ) (offers : List Offer) → Each (λ (pair : ℕ × Offer). n ≤ pair.0) (enumerate_from n offers)
from_on n [] = tt
from_on n (offer ∷ offers) = (omega arith, each_weaker (λ (pair : ℕ × Offer). n + 1 ≤ pair.0) (λ (pair : ℕ × Offer). n ≤ pair.0) (λ pair h. omega (arith, h)) (enumerate_from (n + 1) offers) (from_on (n + 1) offers))

above_numbers : (n : ℕ) (pairs : List (ℕ × Offer)) → Each (λ (pair : ℕ × Offer). n + 1 ≤ pair.0) pairs → Each (λ m. n < m) (numbers_of pairs)
above_numbers n [] each = tt
above_numbers n (pair ∷ pairs) each = (let h = each.0 in omega (arith, h), above_numbers n pairs each.1)

-- the sum over numbered offers
abbrev pub sum_pairs : (ℕ × Offer → ℤ) → List (ℕ × Offer) → ℤ
sum_pairs f [] = pos 0
sum_pairs f (pair ∷ pairs) = f pair +ℤ sum_pairs f pairs

pub sum_pairs_same : (f g : ℕ × Offer → ℤ) (pairs : List (ℕ × Offer)) → Each (λ pair. f pair ≡ g pair) pairs → sum_pairs f pairs ≡ sum_pairs g pairs
sum_pairs_same f g [] each = refl
sum_pairs_same f g (pair ∷ pairs) each = ap₂ (λ a b. a +ℤ b) each.0 (sum_pairs_same f g pairs each.1)

zero_and : (x : ℤ) → pos 0 +ℤ x ≡ x
zero_and x = omega (arith, linear)

-- the place of the other offers, where one stands ahead
ahead : (n : ℕ) (offers : List Offer) (kept : List (ℕ × Offer)) → Each (λ (pair : ℕ × Offer). place pair.0 (n ∷ numbers_of kept) ≡ later (place pair.0 (numbers_of kept))) (enumerate_from (n + 1) offers)
ahead n offers kept = each_weaker (λ (pair : ℕ × Offer). n + 1 ≤ pair.0) (λ (pair : ℕ × Offer). place pair.0 (n ∷ numbers_of kept) ≡ later (place pair.0 (numbers_of kept))) (λ pair h. place_later pair.0 n (numbers_of kept) (omega (arith, h))) (enumerate_from (n + 1) offers) (from_on (n + 1) offers)

-- a sum over all offers, each by the place of its number among those kept, is a sum over those kept, if an offer without a place counts nothing
pub sum_by_place : (p : ℕ × Offer → Bool) (term : Option ℕ → Offer → ℤ) → ((offer : Offer) → term None offer ≡ pos 0) → (n : ℕ) (offers : List Offer) (o : ℕ × Offer) → sum_pairs (λ pair. term (place pair.0 (numbers_of (filter p (enumerate_from n offers)))) pair.1) (enumerate_from n offers) ≡ sum_below (length (filter p (enumerate_from n offers))) (λ k. term (Some k) (slice_index_or (filter p (enumerate_from n offers)) k o).1)
sum_by_place p term nothing n [] o = refl
sum_by_place p term nothing n (offer ∷ offers) o =
    let rest = enumerate_from (n + 1) offers in
    let kept = filter p rest in
    let P : Bool → Type 0 = λ b. sum_pairs (λ pair. term (place pair.0 (numbers_of (cond b ((n, offer) ∷ kept) kept))) pair.1) ((n, offer) ∷ rest) ≡ sum_below (length (cond b ((n, offer) ∷ kept) kept)) (λ k. term (Some k) (slice_index_or (cond b ((n, offer) ∷ kept) kept) k o).1) in
    elim (p (n, offer)) as P [
      | true ↦
          ap₂ (λ a b. a +ℤ b) (ap (λ q. term q offer) (place_here n (numbers_of kept)))
          (sum_pairs_same (λ pair. term (place pair.0 (n ∷ numbers_of kept)) pair.1) (λ pair. term (later (place pair.0 (numbers_of kept))) pair.1) rest
          (each_weaker (λ (pair : ℕ × Offer). place pair.0 (n ∷ numbers_of kept) ≡ later (place pair.0 (numbers_of kept))) (λ (pair : ℕ × Offer). term (place pair.0 (n ∷ numbers_of kept)) pair.1 ≡ term (later (place pair.0 (numbers_of kept))) pair.1) (λ pair e. ap (λ q. term q pair.1) e) rest (ahead n offers kept))
          ∙ sum_by_place p (λ q. term (later q)) nothing (n + 1) offers o)
          ∙ sym (sum_front (length kept) (λ k. term (Some k) (slice_index_or ((n, offer) ∷ kept) k o).1))
      | false ↦
          ap₂ (λ a b. a +ℤ b) (ap (λ q. term q offer) (place_none n (numbers_of kept) (above_numbers n kept (each_filter (λ (pair : ℕ × Offer). n + 1 ≤ pair.0) p rest (from_on (n + 1) offers)))) ∙ nothing offer) (sum_by_place p term nothing (n + 1) offers o)
          ∙ zero_and (sum_below (length kept) (λ k. term (Some k) (slice_index_or kept k o).1))
    ]
