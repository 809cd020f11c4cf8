use Rattle.std.proofs.Common.{take}
use Rattle.std.specs.Prelude.{Ok}
use Rattle.std.specs.List.{flat_map, enumerate_from}
use Rattle.desk_io.specs.declared.faults.WriteFailed.{WriteFailed}
use Rattle.report_definitions.specs.Report.{feed_lines}
use Rattle.text_out.specs.Written.{Gathered}
use Rattle.arb_report.proofs.writing.put_feeds.Given as goal

-- the feeds so far were gathered
abbrev pub invariant-loop-number : goal.invariant-loop-number
invariant-loop-number g l =
    let K = g.K.Sink in
    Gathered {E = WriteFailed} (K.written l.fn.sink) (K.written l.sink) (K.faults l.fn.sink) (K.faults l.sink) l.fn.held l.held (flat_map feed_lines (take l.number (enumerate_from 0 l.feeds))) (Ok tt)
