use Rattle.std.proofs.Common.{Some, None}
use Rattle.quote_board.proofs.Slots.{slots_after}
use Rattle.quote_board.proofs.book.take_offer.Goals as goal

pub returns-in-Some-clause-offers : goal.returns-in-Some-clause-offers
returns-in-Some-clause-offers c =
    slots_after c.args.book.now (record { offers = c.remove.new.self; due = c.args.book.now.due }) c.args.slot None c.remove.ensures.updates.0

pub returns-in_ok-insert-in-None-clause-offers : goal.returns-in_ok-insert-in-None-clause-offers
returns-in_ok-insert-in-None-clause-offers c =
    slots_after c.args.book.now (record { offers = c.remove-in-None.new.self; due = Some c.args.place }) c.args.slot None c.remove-in-None.ensures.updates.0
