-- A sink in memory, as contracts see it.
use Rattle.std.specs.Prelude.{List, ℕ}

-- the bytes written, the room for more, how many a write takes at most, the numbers of the writes that fail, and the counts of writes and of faults
pub record SinkState : Type 0 where
  pub written : List ℕ
  pub room : ℕ
  pub piece : ℕ
  pub failing : List ℕ
  pub writes : ℕ
  pub faults : ℕ
