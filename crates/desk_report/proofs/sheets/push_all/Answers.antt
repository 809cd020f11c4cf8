use Rattle.desk_report.proofs.Copies.{push_fits}
use Rattle.desk_report.proofs.sheets.push_all.Goals as goal

pub push-requires : goal.push-requires
push-requires c =
    push_fits c.args.sheet.now c.args.offers.now c.loop-offer.sheet c.requires c.loop-offer.offer-index c.offer-item.result c.loop-offer-test.true c.offer-item.is c.loop-offer.invariant
