-- What a source had left, and what it has left later.
use Rattle.std.specs.Prelude.{List, ℕ, Option}
use Rattle.std.specs.Io.KnownBytes.{Consumes}

-- the bytes left later are a suffix of those left before
abbrev pub GivesUpTo : Option (List ℕ) → Option (List ℕ) → Type 0
GivesUpTo before after = (given : List ℕ) × Consumes before after given
