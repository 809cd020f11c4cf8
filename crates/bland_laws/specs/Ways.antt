-- How many ways there are to choose so many things out of others.
use Rattle.std.specs.Prelude.{◌≡◌, ℕ, zero, suc, ◌+◌, ◌<◌, List, length}
use Rattle.std.specs.List.{All, AllPairs}

-- the number of ways to choose `k` out of `n` things: `k + 1` out of `n + 1` are the first and `k` of the others, or `k + 1` of the others
abbrev pub ways : ℕ → ℕ → ℕ
ways n zero = 1
ways zero (suc k) = 0
ways (suc n) (suc k) = ways n k + ways n (suc k)

-- one such way: a list of `k` numbers below `n`, each above the one before
pub record IsWay (n k : ℕ) (chosen : List ℕ) : Type 0 where
  pub rising : AllPairs (λ x y. x < y) chosen
  pub below : All (λ x. x < n) chosen
  pub count : length chosen ≡ k
