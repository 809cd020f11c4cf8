-- What a sink had, and what it has after a write that was cut short.
use Rattle.std.specs.Prelude.{List, ℕ, Option, ◌<◌, length, take}
use Rattle.std.specs.Io.KnownBytes.{Appends}

-- some of the bytes were appended, from the first on, and not all
abbrev pub AppendsPrefix : Option (List ℕ) → Option (List ℕ) → List ℕ → Type 0
AppendsPrefix old new bytes = (count : ℕ) × (count < length bytes) × Appends old new (take count bytes)
