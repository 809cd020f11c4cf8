-- One term more of a sum over the first elements of a list.
use Rattle.std.proofs.Common.{◌≡◌, ℕ, ℤ, pos, ◌+◌, ◌<◌, ◌+ℤ◌, List, zero, suc, [], ◌∷◌, length, get_or, take, sym, ap, ◌∙◌, arith, add-one}
use Rattle.std.proofs.lemmas.Int.{ints}
use Rattle.scan_types.specs.declared.offer.Offer.{Offer}
use Rattle.finding_definitions.specs.Arbitrage.{sum_over}

first_term : (a : ℤ) → a +ℤ pos 0 ≡ pos 0 +ℤ a
first_term a = omega (arith, ints)

moved : (a b c : ℤ) → a +ℤ (b +ℤ c) ≡ (a +ℤ b) +ℤ c
moved a b c = omega (arith, ints)

sum-take_suc : {X : Type 0} (sum : List X → ℤ) (term : X → ℤ) → sum [] ≡ pos 0 → ((x : X) (xs : List X) → sum (x ∷ xs) ≡ term x +ℤ sum xs) → (xs : List X) (k : ℕ) (d : X) → k < length xs → sum (take (suc k) xs) ≡ sum (take k xs) +ℤ term (get_or xs k d)
sum-take_suc sum term none more [] k d lt = absurd (omega arith)
sum-take_suc sum term none more (x ∷ xs) zero d lt =
    more x [] ∙ ap (λ z. term x +ℤ z) none ∙ first_term (term x) ∙ ap (λ z. z +ℤ term x) (sym none)
sum-take_suc sum term none more (x ∷ xs) (suc k) d lt =
    more x (take (suc k) xs) ∙ ap (λ z. term x +ℤ z) (sum-take_suc sum term none more xs k d (omega arith)) ∙ moved (term x) (sum (take k xs)) (term (get_or xs k d)) ∙ ap (λ z. z +ℤ term (get_or xs k d)) (sym (more x (take k xs)))

-- for a sum that is defined by recursion on the list
pub sum-take_more : {X : Type 0} (sum : List X → ℤ) (term : X → ℤ) → sum [] ≡ pos 0 → ((x : X) (xs : List X) → sum (x ∷ xs) ≡ term x +ℤ sum xs) → (xs : List X) (k : ℕ) (d : X) → k < length xs → sum (take (k + 1) xs) ≡ sum (take k xs) +ℤ term (get_or xs k d)
sum-take_more sum term none more xs k d lt = rw add-one (sum-take_suc sum term none more xs k d lt)

sum_over-take_suc : (f : Offer → ℕ → ℤ) (offers : List Offer) (numbers : List ℕ) (k : ℕ) (d : Offer) → k < length offers → k < length numbers → sum_over f (take (suc k) offers) (take (suc k) numbers) ≡ sum_over f (take k offers) (take k numbers) +ℤ f (get_or offers k d) (get_or numbers k 0)
sum_over-take_suc f [] numbers k d lt low = absurd (omega arith)
sum_over-take_suc f (offer ∷ offers) [] k d lt low = absurd (omega arith)
sum_over-take_suc f (offer ∷ offers) (n ∷ numbers) zero d lt low = first_term (f offer n)
sum_over-take_suc f (offer ∷ offers) (n ∷ numbers) (suc k) d lt low =
    ap (λ z. f offer n +ℤ z) (sum_over-take_suc f offers numbers k d (omega arith) (omega arith)) ∙ moved (f offer n) (sum_over f (take k offers) (take k numbers)) (f (get_or offers k d) (get_or numbers k 0))

-- for a sum over offers, each with its number
pub sum_over-take_more : (f : Offer → ℕ → ℤ) (offers : List Offer) (numbers : List ℕ) (k : ℕ) (d : Offer) → k < length offers → k < length numbers → sum_over f (take (k + 1) offers) (take (k + 1) numbers) ≡ sum_over f (take k offers) (take k numbers) +ℤ f (get_or offers k d) (get_or numbers k 0)
sum_over-take_more f offers numbers k d lt low = rw add-one (sum_over-take_suc f offers numbers k d lt low)
