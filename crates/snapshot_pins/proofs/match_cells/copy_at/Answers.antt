use Rattle.std.proofs.Common.{◌<◌, length, drop, ap, ◌∙◌, arith, set, List, rules, tests}
use Rattle.std.specs.Prelude.{Option}
use Rattle.std.specs.BTreeMap.{values}
use Rattle.std.specs.List.{filter_map}
use Rattle.std.specs.Map.Iter.{deref}
use Rattle.std.proofs.lemmas.List.{length_push}
use Rattle.std.proofs.lemmas.Iterator.Consumers.{YieldsList-from_rest, YieldsList-at, YieldsList-turn, YieldsList-end, YieldsList-from_filter_map}
use Rattle.std.proofs.lemmas.Iterator.Adapters.{YieldsList-from_skip}
use Rattle.scan_types.specs.declared.offer.Offer.{Offer}
use Rattle.snapshot_pins.specs.declared.cell.Cell.{Cell}
use Rattle.snapshot_pins.specs.Values.{offer_at}
use Rattle.snapshot_pins.proofs.Copied.{copy_more, copied_all}
use Rattle.snapshot_pins.proofs.match_cells.copy_at.Goals as goal

pub loop-offer-preserved : goal.loop-offer-preserved
loop-offer-preserved c =
    let held : Cell → Option Offer = λ cell. offer_at cell.values.items c.args.version in
    let all = filter_map held (values c.args.cells.now) in
    let t = YieldsList-turn
    (YieldsList-at c.into_iter-offer-iterator.ensures.into_iter_gives (YieldsList-from_skip c.args.from
    (YieldsList-at c.skip-offer-items.ensures.source (YieldsList-from_filter_map {v = deref} _ held
    (YieldsList-at c.filter_map.ensures.source (YieldsList-from_rest (values c.args.cells.now) c.values.ensures.rest)) c.filter_map.ensures.closure (λ x r q k. search (rules, tests))))
    c.skip-offer-items.ensures.count))
    c.loop-offer.yielded _ c.loop-offer.yielded_by _ _ c.in-Some.offer c.in-Some.is c.next.ensures.steps in
    let counted = c.loop-offer.invariant.counted in
    let within = c.loop-offer.invariant.within in
    let long = c.loop-offer.auto.out in
    let room : c.loop-offer.count < length c.args.out.now = grind (arith, within, long, c.if-count-out.false) in
    record {
      counted = omega (arith, counted, length_push c.loop-offer.yielded c.in-Some.offer);
      within = omega (arith, room);
      copied = ap (λ (row : List Offer). set row c.loop-offer.count c.in-Some.offer) c.loop-offer.invariant.copied
          ∙ copy_more (drop c.args.from all) c.args.out.now c.loop-offer.count c.in-Some.offer (rw counted t) room;
    }

pub returns-clause-copied : goal.returns-clause-copied
returns-clause-copied c =
    let held : Cell → Option Offer = λ cell. offer_at cell.values.items c.args.version in
    let all = filter_map held (values c.args.cells.now) in
    let t = YieldsList-end
    (YieldsList-at c.into_iter-offer-iterator.ensures.into_iter_gives (YieldsList-from_skip c.args.from
    (YieldsList-at c.skip-offer-items.ensures.source (YieldsList-from_filter_map {v = deref} _ held
    (YieldsList-at c.filter_map.ensures.source (YieldsList-from_rest (values c.args.cells.now) c.values.ensures.rest)) c.filter_map.ensures.closure (λ x r q k. search (rules, tests))))
    c.skip-offer-items.ensures.count))
    c.loop-offer.yielded _ c.loop-offer.yielded_by _ _ c.in-None.is c.next.ensures.steps in
    copied_all all c.args.out.now c.loop-offer.out c.args.from c.loop-offer.count (c.loop-offer.invariant.counted ∙ t.1) c.loop-offer.invariant.within c.loop-offer.invariant.copied
