use Rattle.std.proofs.Common.{◌<◌, length, drop, ap, ◌∙◌, arith, set, List}
use Rattle.std.specs.BTreeMap.{values}
use Rattle.std.proofs.lemmas.List.{length_push}
use Rattle.std.proofs.lemmas.Iterator.Consumers.{YieldsList-from_rest, YieldsList-at, YieldsList-turn}
use Rattle.std.proofs.lemmas.Iterator.Adapters.{YieldsList-from_skip}
use Rattle.scan_types.specs.declared.offer.Offer.{Offer}
use Rattle.quote_board.proofs.Copies.{copy_more}
use Rattle.quote_board.proofs.book.copy_offers.Goals as goal

pub loop-offer-preserved : goal.loop-offer-preserved
loop-offer-preserved c =
    let all = values c.args.book.now.offers in
    let road = YieldsList-at c.into_iter-offer-iterator.ensures.into_iter_gives (YieldsList-from_skip c.args.from (YieldsList-at c.skip-offer-items.ensures.source (YieldsList-from_rest all c.values.ensures.rest)) c.skip-offer-items.ensures.count) in
    let t = YieldsList-turn road c.loop-offer.yielded _ c.loop-offer.yielded_by _ _ c.in-Some.offer c.in-Some.is c.next.ensures.steps in
    let counted = c.loop-offer.invariant.counted in
    let within = c.loop-offer.invariant.within in
    let long = c.loop-offer.auto.out in
    let room : c.loop-offer.count < length c.args.out.now = grind (arith, within, long, c.if-count-out.false) in
    record {
      counted = omega (arith, counted, length_push c.loop-offer.yielded c.in-Some.offer);
      within = omega (arith, room);
      copied = ap (λ (row : List Offer). set row c.loop-offer.count c.in-Some.offer.now) c.loop-offer.invariant.copied
          ∙ copy_more (drop c.args.from all) c.args.out.now c.loop-offer.count c.in-Some.offer.now (rw counted t) room;
    }
