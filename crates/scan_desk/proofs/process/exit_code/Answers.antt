use Rattle.scan_desk.proofs.Commands.{counted_of, promised_of}
use Rattle.scan_desk.proofs.process.exit_code.Goals as goal

pub returns-clause-ends_with : goal.returns-clause-ends_with
returns-clause-ends_with g c =
    rw (c.from.ensures, ← c.words_of.ensures) (c.desk-end.result.feeds.items, c.desk-end.result.history.items, c.desk-end.ensures.course, counted_of _ _ _ _ _ _ _ _ c.desk-end.ensures.course c.desk-end.ensures.causes)

pub returns-clause-read_as_promised : goal.returns-clause-read_as_promised
returns-clause-read_as_promised g c promise = rw c.from.ensures (promised_of _ _ _ _ _ _ _ c.desk-end.ensures.causes promise)
