use Rattle.std.proofs.Common.{◌∙◌}
use Rattle.desk_definitions.specs.declared.status.TheConstants.{BAD_HEADER}
use Rattle.desk_definitions.specs.Seen.{sink_seen}
use Rattle.desk_definitions.specs.Texts.{have_one_name}
use Rattle.std.proofs.Common.{refl}
use Rattle.std.proofs.Common.{List, sym, subst}
use Rattle.desk_definitions.specs.declared.feed_end.FeedEnd.{FeedEnd}
use Rattle.desk_once.specs.Counts.{AreCounted}
use Rattle.desk_once.proofs.Counts.{none_counted, begun_counted}
use Rattle.desk_once.proofs.NoBodies.{of_one_book, untouched, without_ends, written_as}
use Rattle.desk_once.proofs.headless.of_one_book.Goals as goal

pub returns-in-Ok-clause-course : goal.returns-in-Ok-clause-course
returns-in-Ok-clause-course g c = λ told names budget begun named twins.
    let sink = sink_seen g.K.Sink.written g.K.Sink.faults c.args.sink.now c.write_text.new.sink in
    of_one_book g.S.Source.left g.S.Source.faults told names budget c.in-Ok.ends.items c.new.result.items c.new.ensures.items c.write_text.result sink
    c.args.begun.items c.args.earlier c.args.later c.in-Ok.ensures.are (c.in-Ok.ensures.begun told begun) named twins
    (written_as c.write_text.result BAD_HEADER c.bytes.result.now (have_one_name c.args.earlier c.args.later) sink (c.bytes.ensures.value ∙ c.have_one_name.ensures) c.write_text.ensures)

pub returns-in-Err-clause-course : goal.returns-in-Err-clause-course
returns-in-Err-clause-course g c = λ told names budget begun named twins.
    let sink = sink_seen g.K.Sink.written g.K.Sink.faults c.args.sink.now c.args.sink.now in
    without_ends g.S.Source.left g.S.Source.faults told names budget c.new-in-Err-2.result.items c.new-in-Err.result.items c.new-in-Err.ensures.items 7 sink
    c.new-in-Err-2.ensures.items refl (untouched g.K.Sink.written g.K.Sink.faults c.args.sink.now)

pub returns-in-Ok-clause-counted : goal.returns-in-Ok-clause-counted
returns-in-Ok-clause-counted g c = λ fresh.
    let P : List (FeedEnd g.row.S.Denot) → Type 0 = λ ends. AreCounted g.S.Source.faults ends in
    subst P (sym c.in-Ok.ensures.are) (begun_counted g.S.Source.faults 0 c.args.begun.items fresh)

pub returns-in-Err-clause-counted : goal.returns-in-Err-clause-counted
returns-in-Err-clause-counted g c = λ fresh. none_counted g.S.Source.faults c.new-in-Err-2.result.items c.new-in-Err-2.ensures.items
