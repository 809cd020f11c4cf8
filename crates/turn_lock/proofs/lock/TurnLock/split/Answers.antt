-- The root gives its next number.
use Rattle.std.proofs.Common.{rules}
use Rattle.turn_lock.proofs.Keeps.{splits}
use Rattle.turn_lock.proofs.lock.TurnLock.split.Goals as goal

pub split_seat-seat-requires : goal.split_seat-seat-requires
split_seat-seat-requires g c = let of = c.requires.of in
    (search rules, search rules, splits g.S.Kept.entries g.S.Kept.fixed g.S.Kept.caller _ _ _ of.away c.requires.root c.requires.few)
