use Rattle.std.proofs.Common.{subst}
use Rattle.feed_definitions.specs.declared.accepted.Change.{Change}
use Rattle.desk_definitions.specs.Lines.{key_of}
use Rattle.feed_board_laws.specs.Bodies.{lines_in, MayTake}
use Rattle.feed_board_laws.proofs.Takes.{takes_line}
use Rattle.feed_bodies.proofs.taking.add_line.Goals as goal

pub quote-requires : goal.quote-requires
quote-requires g c =
    let P : Change → Type 0 = λ change. MayTake c.args.board.now.fixed.rules c.args.board.now.history (key_of c.args.feed c.args.line) c.args.line.line change in
    subst P c.in-Quote.is
    (takes_line c.args.board.now.fixed.rules c.args.board.now.history c.args.feed (lines_in c.args.board.now.history c.args.feed) c.args.line c.requires.holds c.requires.accepted)

pub withdraw-requires : goal.withdraw-requires
withdraw-requires g c =
    let P : Change → Type 0 = λ change. MayTake c.args.board.now.fixed.rules c.args.board.now.history (key_of c.args.feed c.args.line) c.args.line.line change in
    subst P c.in-Withdraw.is
    (takes_line c.args.board.now.fixed.rules c.args.board.now.history c.args.feed (lines_in c.args.board.now.history c.args.feed) c.args.line c.requires.holds c.requires.accepted)
