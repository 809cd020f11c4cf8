use Rattle.std.proofs.Common.{List, sym, subst}
use Rattle.scan_types.specs.declared.offer.Offer.{Offer}
use Rattle.scan_types.specs.Sheets.{Fits}
use Rattle.solver_workers.proofs.Prefixes.{fits_at}
use Rattle.solver_workers.proofs.sheets.push_each.Goals as goal

pub push-requires : goal.push-requires
push-requires c =
    subst (λ (xs : List Offer). Fits xs c.index-more-k.result) (sym c.loop-k.invariant) (fits_at c.args.sheet.now c.args.more.now c.loop-k.k c.index-more-k.result c.loop-k-test.true c.index-more-k.is c.requires)
