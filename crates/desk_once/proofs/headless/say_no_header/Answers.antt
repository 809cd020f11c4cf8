use Rattle.std.proofs.Common.{◌∙◌}
use Rattle.desk_definitions.specs.declared.status.TheConstants.{NOT_READ, BAD_HEADER}
use Rattle.desk_definitions.specs.Seen.{sink_seen}
use Rattle.desk_definitions.specs.Texts.{cannot_be_read, is_no_header}
use Rattle.desk_opening.specs.declared.begun.HeaderStop.TheVariants as stop
use Rattle.desk_once.proofs.NoBodies.{said_as, written_as}
use Rattle.desk_once.proofs.headless.say_no_header.Goals as goal

pub returns-in-ReadFault : goal.returns-in-ReadFault
returns-in-ReadFault g c =
    let sink = sink_seen g.K.Sink.written g.K.Sink.faults c.args.sink.now c.write_text.new.sink in
    said_as c.args.stop stop.ReadFault c.args.number c.write_text.result sink c.in-ReadFault.is
    (written_as c.write_text.result NOT_READ c.bytes.result.now (cannot_be_read c.args.number) sink (c.bytes.ensures.value ∙ c.cannot_be_read.ensures) c.write_text.ensures)

pub returns-in-BadHeader : goal.returns-in-BadHeader
returns-in-BadHeader g c =
    let sink = sink_seen g.K.Sink.written g.K.Sink.faults c.args.sink.now c.write_text-in-BadHeader.new.sink in
    let refusal = c.in-BadHeader.refusal in
    said_as c.args.stop (stop.BadHeader refusal) c.args.number c.write_text-in-BadHeader.result sink c.in-BadHeader.is
    (written_as c.write_text-in-BadHeader.result BAD_HEADER c.bytes-in-BadHeader.result.now (is_no_header c.args.number refusal.place.column refusal.cause) sink
    (c.bytes-in-BadHeader.ensures.value ∙ c.is_no_header.ensures) c.write_text-in-BadHeader.ensures)
