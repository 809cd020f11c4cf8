-- Condensed rows, and the whole rows that they stand for.
use Rattle.std.specs.Prelude.{◌≡◌, ℕ, ◌<◌, ◌⊎◌, List, length, map, slice_index, ℤ, pos}
use Rattle.row_definitions.specs.Rows.{entry}

-- the whole row: each column shows the condensed row's entry at its place, and 0 if the place is past its end
abbrev pub whole : List ℕ → List ℤ → List ℤ
whole places row = map (entry row) places

-- the column that shows an entry of the condensed row
pub record IsShown (places : List ℕ) (place : ℕ) : Type 0 where
  pub column : ℕ
  pub within : column < length places
  pub is : slice_index places column ≡ place

-- each entry of the two condensed rows is shown, or is 0 in both
abbrev pub ShowEach : List ℕ → List ℤ → List ℤ → Type 0
ShowEach places target pivot = (place : ℕ) → place < length target → ((entry target place ≡ pos 0) × (entry pivot place ≡ pos 0)) ⊎ IsShown places place
