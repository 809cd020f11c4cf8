use Rattle.std.proofs.Common.{Some}
use Rattle.quote_board.proofs.Slots.{slots_after}
use Rattle.quote_board.proofs.book.put_offer.Goals as goal

pub returns-in_ok-insert-in-Some-clause-offers : goal.returns-in_ok-insert-in-Some-clause-offers
returns-in_ok-insert-in-Some-clause-offers c =
    slots_after c.args.book.now (record { offers = c.insert.new.self; due = c.args.book.now.due }) c.args.slot (Some c.args.offer) c.in_ok-insert-in-Some.ensures.updates.0

pub returns-in-Ok-clause-offers : goal.returns-in-Ok-clause-offers
returns-in-Ok-clause-offers c =
    slots_after c.args.book.now (record { offers = c.insert-in-None-2.new.self; due = Some c.args.place }) c.args.slot (Some c.args.offer) c.in-Ok.ensures.updates.0
