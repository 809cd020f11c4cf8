use Rattle.std.proofs.Common.{◌++◌, ap, append_assoc}
use Rattle.std.specs.List.{flat_map}
use Rattle.report_definitions.specs.Report.{match_line, offer_line, finding_line}
use Rattle.text_out.proofs.Writes.{and_then, cut, same_text}
use Rattle.arb_report.proofs.writing.put_match.Goals as goal

pub returns-in_err-put_match_line : goal.returns-in_err-put_match_line
returns-in_err-put_match_line g c =
    cut c.in_err-put_match_line.ensures (flat_map offer_line c.args.part.now.sheet ++ finding_line c.args.part.now.finding) _ c.from_residual.ensures.0

pub returns-in_err-put_offers : goal.returns-in_err-put_offers
returns-in_err-put_offers g c =
    let part = c.args.part.now in
    let offers = same_text c.in_err-put_offers.ensures _ (ap (flat_map offer_line) c.offers.ensures.value) in
    same_text (cut (and_then c.in_ok-put_match_line.ensures offers) (finding_line part.finding) _ c.from_residual-in_err-put_offers.ensures.0) _
    (append_assoc (match_line part) (flat_map offer_line part.sheet) (finding_line part.finding))

pub returns : goal.returns
returns g c =
    let offers = same_text c.in_ok-put_offers.ensures _ (ap (flat_map offer_line) c.offers.ensures.value) in
    and_then c.in_ok-put_match_line.ensures (and_then offers c.put_found.ensures)
