-- Laws of findings.
use Rattle.std.specs.Prelude.{◌≡◌, ℕ, List}
use Rattle.scan_types.specs.declared.offer.Offer.{Offer}
use Rattle.finding_definitions.specs.declared.finding.Finding.{Finding}
use Rattle.judging_definitions.specs.ExactFinding.{IsFindingOf}

-- a sheet with a budget has one finding
abbrev pub FindingIsOne : Type 0
FindingIsOne = (offers : List Offer) (budget : ℕ) (finding other : Finding) → IsFindingOf offers budget finding → IsFindingOf offers budget other → finding ≡ other
