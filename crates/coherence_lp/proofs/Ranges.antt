-- What is made of one more number.
use Rattle.std.proofs.Common.{◌≡◌, ℕ, zero, suc, ◌+◌, ◌*◌, ◌<◌, ◌≤◌, mul-le-mul_right, List, [], ◌∷◌, ◌++◌, ap, sym, ◌∙◌, arith, append_assoc}
use Rattle.std.specs.List.{flat_map, range_with_len}
use Rattle.std.proofs.lemmas.List.{append-nil}

pub flat_map-range_more : {X : Type 0} (f : ℕ → List X) (a n : ℕ) → flat_map f (range_with_len a (suc n)) ≡ flat_map f (range_with_len a n) ++ f (a + n)
flat_map-range_more f a zero = append-nil (f a) ∙ ap f (let e : a ≡ a + 0 = omega arith in e)
flat_map-range_more f a (suc n) =
    ap (λ ys. f a ++ ys) (flat_map-range_more f (a + 1) n)
    ∙ sym (append_assoc (f a) (flat_map f (range_with_len (a + 1) n)) (f (a + 1 + n)))
    ∙ ap (λ k. (f a ++ flat_map f (range_with_len (a + 1) n)) ++ f k) (let e : a + 1 + n ≡ a + suc n = omega arith in e)

-- a row behind the rows that stand there, its first number and then the rest
pub row_behind : {X : Type 0} (old rows negated before pushed new : List X) (x : X) → before ≡ old ++ rows → pushed ≡ before ++ x ∷ [] → new ≡ pushed ++ negated → new ≡ old ++ (rows ++ (x ∷ negated))
row_behind old rows negated before pushed new x stood first rest =
    rest
    ∙ ap (λ xs. xs ++ negated) (first ∙ ap (λ xs. xs ++ x ∷ []) stood)
    ∙ append_assoc (old ++ rows) (x ∷ []) negated
    ∙ append_assoc old rows (x ∷ negated)

-- rows behind those that stand there
pub behind : {X : Type 0} (old rows more before new : List X) → before ≡ old ++ rows → new ≡ before ++ more → new ≡ old ++ (rows ++ more)
behind old rows more before new stood rest = rest ∙ ap (λ xs. xs ++ more) stood ∙ append_assoc old rows more

-- column `j` of row `i` of a table stands in it
pub place_within : (i j width count total : ℕ) → i < count → j < width → count * width ≤ total → i * width + j < total
place_within i j width count total h k all = (let x : (i + 1) * width ≤ count * width = mul-le-mul_right width (let y : i + 1 ≤ count = omega arith in y) in omega (arith, x, k, all))
