use Rattle.settlement_laws.proofs.Cover.{gain-stand_for, is_final-stand_for}
use Rattle.settlement_laws.proofs.Table.{each_has_stand_in}
use Rattle.settlement_laws.proofs.laws.stand_in_settles_alike.Goals as goal

pub returns-clause-alike : goal.returns-clause-alike
returns-clause-alike c offer x = (is_final-stand_for x, gain-stand_for offer x)

pub returns-clause-among : goal.returns-clause-among
returns-clause-among c = each_has_stand_in
