-- How many bits the numbers of a row have.
use Rattle.std.specs.Prelude.{ℕ, ◌<◌, ◌≤◌, ◌^◌, List, ℤ, ◌*ℤ◌, unsigned_abs}
use Rattle.std.specs.List.{All}

-- the number has at most so many bits, its sign left out
abbrev pub HasBits : ℕ → ℤ → Type 0
HasBits bits x = unsigned_abs x < 2 ^ bits

-- the bit length of a row: the least number of bits that is enough for each of its numbers, 0 where all are 0
pub record IsBitLength (row : List ℤ) (bits : ℕ) : Type 0 where
  pub enough : All (HasBits bits) row
  pub least : (fewer : ℕ) → All (HasBits fewer) row → bits ≤ fewer

-- the number and its product with a factor have at most 62 bits, so both and the difference of two such products fit 64
pub record IsShortBy (factor x : ℤ) : Type 0 where
  pub number : HasBits 62 x
  pub product : HasBits 62 (factor *ℤ x)
