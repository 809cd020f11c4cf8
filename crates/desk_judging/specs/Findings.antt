-- The findings that are filed with a budget.
use Rattle.std.specs.Prelude.{ℕ, List}
use Rattle.scan_types.specs.declared.offer.Offer.{Offer}
use Rattle.finding_definitions.specs.declared.finding.Finding.{Finding}
use Rattle.judging_definitions.specs.ExactFinding.{IsFindingOf}

-- the finding of a sheet with this budget of pivots for each run
abbrev pub findings_by : ℕ → List Offer → Finding → Type 0
findings_by budget offers finding = IsFindingOf offers budget finding
