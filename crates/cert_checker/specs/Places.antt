-- The first place of a list at which a fact fails.
use Rattle.std.specs.Prelude.{ℕ, ◌<◌, Option, None, Some, List, length, slice_index_or}

-- the fact holds at each place of the list
abbrev pub AllHold : {X : Type 0} → (ℕ → X → Type 0) → List X → Type 0
AllHold {X} P xs = (j : ℕ) (d : X) → j < length xs → P j (slice_index_or xs j d)

-- the first place of the list at which the fact fails
pub record IsFirstFailure {X : Type 0} (P : ℕ → X → Type 0) (xs : List X) (k : ℕ) : Type 0 where
  pub within : k < length xs
  pub before : (j : ℕ) (d : X) → j < k → P j (slice_index_or xs j d)
  pub fails : (d : X) → P k (slice_index_or xs k d) → ⊥

-- the first place at which the fact fails, if there is one
abbrev pub Finds : {X : Type 0} → (ℕ → X → Type 0) → List X → Option ℕ → Type 0
Finds P xs None = AllHold P xs
Finds P xs (Some k) = IsFirstFailure P xs k
