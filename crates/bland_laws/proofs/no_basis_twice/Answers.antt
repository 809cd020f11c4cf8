use Rattle.bland_laws.proofs.RunsAreShort.{basis_is_way, no_basis_twice}
use Rattle.bland_laws.proofs.no_basis_twice.Goals as goal

pub returns-clause-is_way : goal.returns-clause-is_way
returns-clause-is_way c = basis_is_way

pub returns-clause-never_twice : goal.returns-clause-never_twice
returns-clause-never_twice c = no_basis_twice
