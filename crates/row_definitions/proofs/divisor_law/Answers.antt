use Rattle.row_definitions.specs.Rows.{row_divisor}
use Rattle.row_definitions.proofs.Divisors.{row_divisor_is, All-from_Divides, Divides-from_All}
use Rattle.row_definitions.proofs.divisor_law.Goals as goal

pub returns-clause-divides : goal.returns-clause-divides
returns-clause-divides c row = All-from_Divides (row_divisor row) row (row_divisor_is row).0

pub returns-clause-greatest : goal.returns-clause-greatest
returns-clause-greatest c row divisor h = (row_divisor_is row).1 divisor (Divides-from_All divisor row h)
