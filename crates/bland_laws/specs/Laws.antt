-- Bland's rule meets no basis twice, so a run makes fewer pivots than there are bases.
use Rattle.std.specs.Prelude.{◌≢◌, ℕ, ◌+◌, ◌<◌, ◌≤◌, List, length}
use Rattle.std.specs.List.{All, AllPairs}
use Rattle.pivot_definitions.specs.Programs.{LinearProgram, IsProgram, IsCapped}
use Rattle.pivot_definitions.specs.Tableaus.{SimplexTableau, built}
use Rattle.pivot_definitions.specs.Runs.{EndsOutOfPivots}
use Rattle.bland_laws.specs.Ways.{ways, IsWay}
use Rattle.bland_laws.specs.Bases.{basis_of, basis_count}
use Rattle.bland_laws.specs.PlainRuns.{PlainRunsTo}

-- different choices of `k` numbers below `n` are at most as many as there are ways
abbrev pub FewBases : Type 0
FewBases = (n k : ℕ) (lists : List (List ℕ)) → All (IsWay n k) lists → AllPairs (λ x y. x ≢ y) lists → length lists ≤ ways n k

-- the basis of each tableau that a run of a capped program reaches is one of these ways
abbrev pub BasisIsWay : Type 0
BasisIsWay = (program : LinearProgram) → IsProgram program → IsCapped program → (pivots : ℕ) (end : SimplexTableau) → PlainRunsTo (built program) pivots end → IsWay (program.columns + program.rows) program.rows (basis_of end)

-- two tableaus that a run of a capped program reaches, the one before the other, have different bases
abbrev pub NoBasisTwice : Type 0
NoBasisTwice = (program : LinearProgram) → IsProgram program → IsCapped program → (pivots more : ℕ) (before after : SimplexTableau) → PlainRunsTo (built program) pivots before → PlainRunsTo (built program) more after → pivots < more → basis_of before ≢ basis_of after

-- a run of a capped program makes fewer pivots than there are bases
abbrev pub RunIsShort : Type 0
RunIsShort = (program : LinearProgram) → IsProgram program → IsCapped program → (pivots : ℕ) (end : SimplexTableau) → PlainRunsTo (built program) pivots end → pivots < basis_count program

-- so a run of a capped program that is out of pivots has made fewer, and a budget of as many pivots as there are bases is never used up
abbrev pub OutOfPivotsIsShort : Type 0
OutOfPivotsIsShort = (program : LinearProgram) → IsProgram program → IsCapped program → (budget pivots : ℕ) (end : SimplexTableau) → EndsOutOfPivots (built program) budget pivots end → pivots < basis_count program
