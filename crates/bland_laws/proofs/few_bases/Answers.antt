use Rattle.bland_laws.proofs.FewBases.{few_bases}
use Rattle.bland_laws.proofs.few_bases.Goals as goal

pub returns-clause-few : goal.returns-clause-few
returns-clause-few c = few_bases
