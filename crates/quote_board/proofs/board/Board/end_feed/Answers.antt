use Rattle.std.proofs.Common.{◌-◌, List, sym, subst, arith}
use Rattle.std.specs.Prelude.{vec_capacity}
use Rattle.board_definitions.specs.declared.event.Entry.{Entry}
use Rattle.quote_board.specs.Kept.{IsSound}
use Rattle.quote_board.proofs.Sound.{some_run, sound_ended}
use Rattle.quote_board.proofs.board.Board.end_feed.Goals as goal

pub overflow_sub-self : goal.overflow_sub-self
overflow_sub-self g c =
    let run = some_run c.self.inside.fixed.rules c.self.inside.history.items c.args.caller c.args.feed c.args.stop c.self.invariant.eight (rw (← c.self.view_is) at c.requires.open) in
    let is = c.self.invariant.open_is in
    omega (arith, run, is)

pub add-requires : goal.add-requires
add-requires g c =
    let run = some_run c.self.inside.fixed.rules c.self.inside.history.items c.args.caller c.args.feed c.args.stop c.self.invariant.eight (rw (← c.self.view_is) at c.requires.open) in
    let is = c.self.invariant.open_is in
    let room = c.self.invariant.room in
    omega (arith, run, is, room, c.self.inside.history.ok)

pub invariant_of-self : goal.invariant_of-self
invariant_of-self g c =
    let run = some_run c.self.inside.fixed.rules c.self.inside.history.items c.args.caller c.args.feed c.args.stop c.self.invariant.eight (rw (← c.self.view_is) at c.requires.open) in
    let is = c.self.invariant.open_is in
    let P : List Entry → Type 0 = λ xs. IsSound (g.W.Law.allows c.self.inside.fixed.law) c.self.inside.fixed.rules xs (vec_capacity c.add.new.history)
    c.self.inside.books c.self.inside.waiting c.self.inside.pins (c.self.inside.open_feeds - 1) in
    subst P (sym c.add.ensures.items)
    (sound_ended (g.W.Law.allows c.self.inside.fixed.law) c.self.inside.fixed.rules c.self.inside.history.items c.args.caller c.args.feed c.args.stop
    (vec_capacity c.self.inside.history) (vec_capacity c.add.new.history) c.self.inside.open_feeds (c.self.inside.open_feeds - 1)
    c.self.inside.books c.self.inside.waiting c.self.inside.pins
    (rw (← c.self.view_is) at c.requires.open) c.requires.stop (omega (arith, run, is)) c.add.ensures.capacity c.self.invariant)

pub returns-clause-legal : goal.returns-clause-legal
returns-clause-legal g c = let sound = invariant_of-self g c in sound.legal
