use Rattle.std.proofs.Common.{refl}
use Rattle.settlement_definitions.proofs.laws.void_gives_back.Goals as goal

pub returns : goal.returns
returns c offer h a void = rw void refl
