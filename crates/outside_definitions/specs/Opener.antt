-- The sources that an opener has still to open, as the bytes of each, in order, by name.
use Rattle.std.specs.Prelude.{◌≡◌, ◌≢◌, List, [], ◌∷◌, ℕ, Option, Some, None, IfSome, drop, count_by, option_map}
use Rattle.std.specs.List.{slice_get}
use Rattle.std.specs.Option.{option_and_then}
use Rattle.std.specs.Str.{bytes_eq}

-- what is told under each name
abbrev pub Told : Type 0
Told = List ℕ → Option (List (List ℕ))

-- the first source under a name is opened and has these bytes left, and the others are still to be opened; of a name of which
-- nothing is told, nothing is told then either
abbrev pub OpensFirst : Option (List (List ℕ)) → Option (List (List ℕ)) → Option (List ℕ) → Type 0
OpensFirst None after left = after ≡ None
OpensFirst (Some []) after left = ⊥
OpensFirst (Some (first ∷ others)) after left = (after ≡ Some others) × (left ≡ Some first)

-- what is told under each other name is as before
abbrev pub SameUnderOthers : List ℕ → Told → Told → Type 0
SameUnderOthers name old new = (other : List ℕ) → other ≢ name → new other ≡ old other

-- what is told under each name is as before
abbrev pub SameUnderAll : Told → Told → Type 0
SameUnderAll old new = (name : List ℕ) → new name ≡ old name

-- how often a name stands among names
abbrev pub times : List ℕ → List (List ℕ) → ℕ
times name names = count_by (λ other. bytes_eq other name) names

-- the bytes of the source that is opened under a name after openings under the earlier names: of its list the next one
abbrev pub next_under : List (List ℕ) → List ℕ → Told → Option (List ℕ)
next_under earlier name told = option_and_then (λ sources. slice_get sources (times name earlier)) (told name)

-- openings under the names lead from what was told to what is told now: from each name's list as many are gone as the name stands among them
abbrev pub OpenedUnder : List (List ℕ) → Told → Told → Type 0
OpenedUnder names old new = (name : List ℕ) → IfSome (old name) (λ sources. new name ≡ Some (drop (times name names) sources))

-- exactly these openings were made: from each name's list as many sources are gone as the name stands among them, and of a name of
-- which nothing was told nothing is told now
abbrev pub TakenUnder : List (List ℕ) → Told → Told → Type 0
TakenUnder names old new = (name : List ℕ) → new name ≡ option_map (λ sources. drop (times name names) sources) (old name)
