use Rattle.std.proofs.Common.{List, ◌++◌, take, sym, subst}
use Rattle.board_definitions.specs.declared.event.Entry.{Entry}
use Rattle.turn_lock.specs.Turns.{in_hand, state_of}
use Rattle.quote_board.specs.declared.part.BoardPart.{BoardPart}
use Rattle.desk_definitions.specs.Lines.{entries_of}
use Rattle.feed_board_laws.specs.Bodies.{HoldsLines}
use Rattle.feed_workers.proofs.Lines.{held_all, accepted_at}
use Rattle.feed_workers.proofs.turns.put_each.Goals as goal

pub put_line-requires-clause-may : goal.put_line-requires-clause-may
put_line-requires-clause-may g c =
    let may = c.requires.may in
    let lines = c.args.lines.now in
    let put = take c.loop-k.k lines in
    let holds = held_all (state_of c.args.turn.now).fixed.rules (in_hand c.args.turn.now) c.args.feed may.0 put may.1 in (
      may.0 ++ put,
      subst (λ (h : List Entry). HoldsLines (state_of c.loop-k.turn).fixed.rules h c.args.feed (may.0 ++ put)) (sym c.loop-k.invariant.put)
          (subst (λ (part : BoardPart _). HoldsLines part.rules (in_hand c.args.turn.now ++ entries_of c.args.feed put) c.args.feed (may.0 ++ put)) (sym c.loop-k.invariant.fixed) holds),
      accepted_at may.0 lines c.loop-k.k c.index-lines-k.result may.2 c.loop-k-test.true c.index-lines-k.is,
    )
