-- Entries by their caller, and the entries that the root keeps of the passes that were joined.
use Rattle.std.specs.Prelude.{ℕ, ◌-◌, drop, ◌==◌, if◌then◌else◌, nat_lt, List, [], ◌∷◌, ◌++◌, length, filter}

-- the entries of the list that this caller added, in order
abbrev pub calls_of : {E : Type 0} → (E → ℕ) → ℕ → List E → List E
calls_of caller n xs = filter (λ e. caller e == n) xs

-- the entries that are kept under this number
abbrev pub kept_of : {E : Type 0} → ℕ → List (ℕ × List E) → List E
kept_of n [] = []
kept_of n (p ∷ ps) = (if p.0 == n then p.1 else []) ++ kept_of n ps

-- the longer of two lists, the first where they are as long
abbrev pub longer : {E : Type 0} → List E → List E → List E
longer xs ys = if nat_lt (length xs) (length ys) then ys else xs

-- the last entry of the list, or none
abbrev pub newest : {E : Type 0} → List E → List E
newest xs = drop (length xs - 1) xs
