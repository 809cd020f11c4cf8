use Rattle.std.proofs.Common.{take}
use Rattle.std.specs.Prelude.{Ok}
use Rattle.std.specs.List.{flat_map}
use Rattle.desk_io.specs.declared.faults.WriteFailed.{WriteFailed}
use Rattle.report_definitions.specs.Report.{offer_line}
use Rattle.text_out.specs.Written.{Gathered}
use Rattle.arb_report.proofs.writing.put_offers.Given as goal

-- the lines so far were gathered
abbrev pub invariant-loop-offer : goal.invariant-loop-offer
invariant-loop-offer g l =
    let K = g.K.Sink in
    Gathered {E = WriteFailed} (K.written l.fn.sink) (K.written l.sink) (K.faults l.fn.sink) (K.faults l.sink) l.fn.held l.held (flat_map offer_line (take l.offer-index l.offers)) (Ok tt)
