use Rattle.settlement_laws.proofs.Alike as alike
use Rattle.settlement_laws.proofs.laws.each_has_class.Goals as goal

pub returns : goal.returns
returns c = alike.each_has_class
