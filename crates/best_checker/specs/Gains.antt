-- The least that parts win at the final scores among the stand-ins.
use Rattle.std.specs.Prelude.{ℕ, ℤ, ◌≡◌, ◌≤ℤ◌}
use Rattle.std.specs.Int.{int_min}
use Rattle.scan_types.specs.declared.outcome.Outcome.{Outcome}
use Rattle.scan_types.specs.declared.outcome.Outcome.TheVariants.{Full, Abandoned}

-- the lower of a number and what is won at an outcome, if that is a final score, else the number
abbrev pub IsLower : (Outcome → ℤ) → Outcome → ℤ → ℤ → Type 0
IsLower total (Full home away) least lower = lower ≡ int_min least (total (Full home away))
IsLower total (Abandoned home away) least lower = lower ≡ least

-- at least so much is won at an outcome if it is a final score
abbrev pub IsAtLeast : (Outcome → ℤ) → ℤ → ℕ → Outcome → Type 0
IsAtLeast total least _ (Full home away) = least ≤ℤ total (Full home away)
IsAtLeast total least _ (Abandoned home away) = Unit {0}
