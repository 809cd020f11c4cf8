-- A try that may find nothing.
use Rattle.std.specs.Prelude.{Option, None, Some}
use Rattle.finding_definitions.specs.declared.finding.Finding.{Finding}

-- what is found by a rule, or nothing if the rule has no finding
abbrev pub FoundBy : (Finding → Type 0) → Option Finding → Type 0
FoundBy rule (Some finding) = rule finding
FoundBy rule None = (finding : Finding) → rule finding → ⊥
