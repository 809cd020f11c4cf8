use Rattle.std.proofs.Common.{refl}
use Rattle.feed_gen.proofs.NoneStands.{none_stand}
use Rattle.feed_gen.specs.declared.limits.TheConstants.{FLAGS}
use Rattle.feed_gen.proofs.making.none_stands.Goals as goal

pub returns : goal.returns
returns c = none_stand FLAGS refl
