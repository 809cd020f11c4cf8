use Rattle.std.proofs.Common.{ap}
use Rattle.std.specs.List.{flat_map}
use Rattle.report_definitions.specs.Report.{refusal_line}
use Rattle.text_out.proofs.Writes.{and_then, cut, same_text}
use Rattle.arb_report.proofs.writing.put_feed.Goals as goal

pub returns-in_err-put_feed_line : goal.returns-in_err-put_feed_line
returns-in_err-put_feed_line g c = cut c.in_err-put_feed_line.ensures (flat_map (refusal_line c.args.number) c.args.feed.now.refusals) _ c.from_residual.ensures.0

pub returns : goal.returns
returns g c =
    and_then c.in_ok-put_feed_line.ensures (same_text c.put_refusals.ensures _ (ap (flat_map (refusal_line c.args.number)) c.items.ensures))
