use Rattle.std.proofs.Common.{ℕ, ◌<◌, List, ℤ, inl, inr, le_antisymm}
use Rattle.std.proofs.lemmas.Bool.{cases_lt}
use Rattle.row_definitions.specs.Combination.{PassesFirst}
use Rattle.row_definitions.proofs.passing_law.Goals as goal

-- no column before the first passes
not_before : (target pivot : List ℤ) (at column other : ℕ) → PassesFirst target pivot at column → PassesFirst target pivot at other → column < other → ⊥
not_before target pivot at column other first second h = first.passes (second.fits_before column h)

pub returns-clause-once : goal.returns-clause-once
returns-clause-once c target pivot at column other first second =
    elim (cases_lt column other) [
      | inl below ↦ absurd (not_before target pivot at column other first second below)
      | inr above ↦
          elim (cases_lt other column) [
            | inl below ↦ absurd (not_before target pivot at other column second first below)
            | inr same ↦ le_antisymm same above
          ]
    ]

pub returns-clause-or_nowhere : goal.returns-clause-or_nowhere
returns-clause-or_nowhere c target pivot at column first nowhere = first.passes (nowhere column first.within)
