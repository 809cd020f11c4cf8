-- A row that is 1 in column 0 and 0 elsewhere.
use Rattle.std.proofs.Common.{◌≡◌, ℕ, suc, ◌-◌, ◌<◌, List, [], ◌∷◌, length, get_or, drop, replicate, refl, sym, ap, ap₂, ◌∙◌, subst, arith}
use Rattle.std.specs.List.{All}
use Rattle.std.proofs.lemmas.List.Elements.{All-head, All-tail, All-replicate}
use lib.IntN.{ℤ, pos}

all_zeros : (xs : List ℤ) → All (λ x. x ≡ pos 0) xs → xs ≡ replicate (length xs) (pos 0)
all_zeros [] all = refl
all_zeros (x ∷ xs) all = ap₂ (λ y ys. y ∷ ys) (All-head (λ y. y ≡ pos 0) x xs all) (all_zeros xs (All-tail (λ y. y ≡ pos 0) x xs all))

pub to_unit : (row : List ℤ) → 0 < length row → get_or row 0 (pos 0) ≡ pos 1 → All (λ x. x ≡ pos 0) (drop 1 row) → row ≡ pos 1 ∷ replicate (length row - 1 - 0) (pos 0)
to_unit [] some first zeros = absurd (omega arith)
to_unit (x ∷ xs) some first zeros = ap₂ (λ y ys. y ∷ ys) first (all_zeros xs zeros ∙ ap (λ n. replicate n (pos 0)) (let e : length xs ≡ suc (length xs) - 1 - 0 = omega arith in e))

pub from_unit : (row : List ℤ) (n : ℕ) → row ≡ pos 1 ∷ replicate n (pos 0) → All (λ x. x ≡ pos 0) (drop 1 row)
from_unit row n is = subst (λ r. All (λ x. x ≡ pos 0) (drop 1 r)) (sym is) (All-replicate (λ x. x ≡ pos 0) n (pos 0) refl)

pub first_of_unit : (row : List ℤ) (n : ℕ) → row ≡ pos 1 ∷ replicate n (pos 0) → get_or row 0 (pos 0) ≡ pos 1
first_of_unit row n is = ap (λ r. get_or r 0 (pos 0)) is
