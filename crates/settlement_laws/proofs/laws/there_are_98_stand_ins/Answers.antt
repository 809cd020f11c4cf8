use Rattle.settlement_laws.proofs.Table.{length-stand_ins}
use Rattle.settlement_laws.proofs.laws.there_are_98_stand_ins.Goals as goal

pub returns : goal.returns
returns c = length-stand_ins
