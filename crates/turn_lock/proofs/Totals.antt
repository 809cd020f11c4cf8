-- Sums over what each pass knows, and the numbers that stand in them once.
use Rattle.std.proofs.Common.{◌≡◌, ◌≢◌, ℕ, zero, suc, ◌+◌, ◌<◌, ◌≤◌, List, [], ◌∷◌, ◌++◌, set, refl, sym, ap, arith}
use mathlib.Core.Option.{some, some-injective, some-ne-none}
use lib.ListN.{get_elem?}
use Rattle.std.proofs.lemmas.Bool.Decides.{nat_tests}
use Rattle.turn_lock.specs.Rule.{total, is_it, once_between}

module _ {V : Type 0} where
  pub total-set : (f : V → ℕ) (vs : List V) (i : ℕ) (v w : V) → get_elem? vs i ≡ some v → total f (set vs i w) + f v ≡ total f vs + f w
  total-set f [] i v w e = absurd (some-ne-none v (sym e))
  total-set f (x ∷ xs) zero v w e = let same : f x ≡ f v = ap f (some-injective x v e) in omega arith
  total-set f (x ∷ xs) (suc i) v w e = let h = total-set f xs i v w e in omega arith

  pub total-append : (f : V → ℕ) (vs ws : List V) → total f (vs ++ ws) ≡ total f vs + total f ws
  total-append f [] ws = omega arith
  total-append f (x ∷ xs) ws = let h = total-append f xs ws in omega arith

  pub total_above : (f : V → ℕ) (vs : List V) (i : ℕ) (v : V) → get_elem? vs i ≡ some v → f v ≤ total f vs
  total_above f [] i v e = absurd (some-ne-none v (sym e))
  total_above f (x ∷ xs) zero v e = let same : f x ≡ f v = ap f (some-injective x v e) in omega arith
  total_above f (x ∷ xs) (suc i) v e = let h = total_above f xs i v e in omega arith

  pub total_above_two : (f : V → ℕ) (vs : List V) (i j : ℕ) (v w : V) → i ≢ j → get_elem? vs i ≡ some v → get_elem? vs j ≡ some w → f v + f w ≤ total f vs
  total_above_two f [] i j v w n e d = absurd (some-ne-none v (sym e))
  total_above_two f (x ∷ xs) zero zero v w n e d = absurd (n refl)
  total_above_two f (x ∷ xs) zero (suc j) v w n e d = let same : f x ≡ f v = ap f (some-injective x v e) in let h = total_above f xs j w d in omega arith
  total_above_two f (x ∷ xs) (suc i) zero v w n e d = let same : f x ≡ f w = ap f (some-injective x w d) in let h = total_above f xs i v e in omega arith
  total_above_two f (x ∷ xs) (suc i) (suc j) v w n e d = let h = total_above_two f xs i j v w (λ s. n (ap suc s)) e d in omega arith

  pub total_le : (f g : V → ℕ) (vs : List V) → ((j : ℕ) (u : V) → get_elem? vs j ≡ some u → f u ≤ g u) → total f vs ≤ total g vs
  total_le f g [] h = omega arith
  total_le f g (x ∷ xs) h = let here = h zero x refl in let there = total_le f g xs (λ j u e. h (suc j) u e) in omega arith

  -- where f is nowhere more than g, it is as much less in total as it is less at one place
  pub total_le_at : (f g : V → ℕ) (vs : List V) (i : ℕ) (v : V) → ((j : ℕ) (u : V) → get_elem? vs j ≡ some u → f u ≤ g u) → get_elem? vs i ≡ some v → total f vs + g v ≤ total g vs + f v
  total_le_at f g [] i v h e = absurd (some-ne-none v (sym e))
  total_le_at f g (x ∷ xs) zero v h e =
      let same : f x ≡ f v = ap f (some-injective x v e) in let same' : g x ≡ g v = ap g (some-injective x v e) in
      let there = total_le f g xs (λ j u d. h (suc j) u d) in omega arith
  total_le_at f g (x ∷ xs) (suc i) v h e = let here = h zero x refl in let there = total_le_at f g xs i v (λ j u d. h (suc j) u d) e in omega arith

pub is_it-same : (k : ℕ) → is_it k k ≡ 1
is_it-same k = grind (arith, nat_tests)

pub is_it-other : (k n : ℕ) → n ≢ k → is_it k n ≡ 0
is_it-other k n ne = grind (arith, nat_tests)

pub is_it_most : (k n : ℕ) → is_it k n ≤ 1
is_it_most k n = grind (arith, nat_tests)

pub once_inside : (a b k : ℕ) → a ≤ k → k < b → once_between a b k ≡ 1
once_inside a b k h l = grind (arith, nat_tests)

pub once_most : (a b k : ℕ) → once_between a b k ≤ 1
once_most a b k = grind (arith, nat_tests)

pub once_only : (a b k : ℕ) → 0 < once_between a b k → (a ≤ k) × (k < b)
once_only a b k h = (grind (arith, nat_tests), grind (arith, nat_tests))

pub once_longer : (a b k : ℕ) → a ≤ b → once_between a (b + 1) k ≡ once_between a b k + is_it k b
once_longer a b k h = grind (arith, nat_tests)

pub once_shorter : (a b k : ℕ) → a < b → once_between a b k ≡ once_between (a + 1) b k + is_it k a
once_shorter a b k h = grind (arith, nat_tests)

module _ {V : Type 0} where
  pub total-same : (f : V → ℕ) (vs : List V) (i : ℕ) (v w : V) → get_elem? vs i ≡ some v → f w ≡ f v → total f (set vs i w) ≡ total f vs
  total-same f vs i v w e same = let h = total-set f vs i v w e in omega arith

pub once_none : (a k : ℕ) → once_between a a k ≡ 0
once_none a k = grind (arith, nat_tests)
