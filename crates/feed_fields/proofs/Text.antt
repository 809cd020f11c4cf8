-- A text in which each byte passes a test.
use Rattle.std.proofs.Common.{◌≡◌, ℕ, suc, ◌+◌, Bool, true, false, not, cond, ltb, ◌&&◌, List, [], ◌∷◌, length, Some, None, refl, ap, arith}
use Rattle.std.specs.List.{list_all, position, position_or_len}
use Rattle.std.proofs.lemmas.Bool.{false≢true}
use Rattle.std.proofs.lemmas.Bool.Decides.{nat_tests}

none_fails : (p : ℕ → Bool) (xs : List ℕ) → list_all p xs ≡ true → position_or_len (λ x. not (p x)) xs ≡ length xs
none_fails p [] h = refl
none_fails p (x ∷ xs) h = one (p x) h (none_fails p xs)
  where
    one : (t : Bool) → (t && list_all p xs) ≡ true → (list_all p xs ≡ true → position_or_len (λ x. not (p x)) xs ≡ length xs) →
        cond (not (not t)) (1 + position_or_len (λ x. not (p x)) xs) 0 ≡ suc (length xs)
    one true h rest = let more = rest h in omega (arith, more)
    one false h rest = absurd (false≢true h)

not_less : (n m : ℕ) → n ≡ m → ltb n m ≡ false
not_less n m h = grind (arith, nat_tests)

-- no byte fails it
pub no_other : (p : ℕ → Bool) (xs : List ℕ) → list_all p xs ≡ true → position (λ x. not (p x)) xs ≡ None
no_other p xs h =
    let n = position_or_len (λ x. not (p x)) xs in
    ap (λ b. cond b (Some n) None) (not_less n (length xs) (none_fails p xs h))
