use Rattle.std.proofs.Common.{ℕ, List, ◌+◌, drop}
use Rattle.std.specs.List.{flat_map}
use Rattle.scan_types.specs.declared.offer.Offer.{Offer}
use Rattle.report_definitions.specs.Report.{offer_line}
use Rattle.text_out.proofs.Writes.{and_then, cut, same_text, nothing, flat_map_all}
use Rattle.arb_report.proofs.Shapes.{one_more, all_three}
use Rattle.arb_report.proofs.writing.put_offers.Goals as goal

pub loop-offer-init : goal.loop-offer-init
loop-offer-init g c = nothing _ _ _ tt

pub returns-in_err-put_offer : goal.returns-in_err-put_offer
returns-in_err-put_offer g c =
    let xs : List Offer = c.args.offers.now in
    let i : ℕ = c.loop-offer.offer-index in
    same_text (cut (and_then c.loop-offer.invariant c.in_err-put_offer.ensures) (flat_map offer_line (drop (i + 1) xs)) _ c.from_residual.ensures.0) _ (all_three offer_line xs i c.offer-item.result c.loop-offer-test.true c.offer-item.is)

pub loop-offer-preserved : goal.loop-offer-preserved
loop-offer-preserved g c =
    same_text (and_then c.loop-offer.invariant c.in_ok-put_offer.ensures) _ (one_more offer_line c.args.offers.now c.loop-offer.offer-index c.offer-item.result c.loop-offer-test.true c.offer-item.is)

pub returns : goal.returns
returns g c = same_text c.loop-offer.invariant _ (flat_map_all offer_line c.args.offers.now c.loop-offer.offer-index c.loop-offer-test.false)
