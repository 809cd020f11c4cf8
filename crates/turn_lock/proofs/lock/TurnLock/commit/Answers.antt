-- The entry is the pass's own, and the word does not wrap.
use Rattle.std.proofs.Common.{rules, arith}
use Rattle.turn_lock.proofs.Moves.{adds_one}
use Rattle.turn_lock.proofs.lock.TurnLock.commit.Goals as goal

pub fetch_add-requires : goal.fetch_add-requires
fetch_add-requires g c =
    let one = c.requires.one in
    let counted = c.count-length.ensures in
    let fits = c.count-length.type_inv in
    (search rules, search rules, adds_one g.S.Kept.entries g.S.Kept.fixed g.S.Kept.caller _ _ _ c.args.seat.now.me _ one.0 c.args.state.now one.1 c.requires.inside one.2 c.requires.all (omega arith))
