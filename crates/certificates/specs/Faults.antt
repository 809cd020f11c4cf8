-- What the answers of reading mean.
use Rattle.std.specs.Prelude.{ℕ, ◌≡◌, List, Result, Ok, Err}
use Rattle.finding_definitions.specs.declared.finding.Finding.{Finding}
use Rattle.finding_definitions.specs.Readable.{IsFaultAt}
use Rattle.certificates.specs.declared.fault.FindingFault.{FindingFault}
use Rattle.certificates.specs.declared.fault.FindingFault.TheVariants.{BadAt, WantOfMemory}

-- the text is no readable finding's, and this is the place where it stops beginning one; or there is no memory left
abbrev pub IsFaultOf : List ℕ → FindingFault → Type 0
IsFaultOf text (BadAt place) = IsFaultAt text place
IsFaultOf text WantOfMemory = Unit {0}

-- the finding is read, unless there is no memory left
abbrev pub IsReadAs : Finding → Result Finding FindingFault → Type 0
IsReadAs finding (Ok found) = found ≡ finding
IsReadAs finding (Err (BadAt place)) = ⊥
IsReadAs finding (Err WantOfMemory) = Unit {0}
