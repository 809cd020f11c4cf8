use Rattle.std.proofs.lemmas.Result.{err_from_is_err_and}
use Rattle.certificates.specs.Reading.{field_at, items_at, MOST_SHORT}
use Rattle.certificates.proofs.Loops.{goes_on, ends, is_done}
use Rattle.certificates.proofs.lists.short_items.Goals as goal

pub returns-in_err-item : goal.returns-in_err-item
returns-in_err-item c =
    let p = err_from_is_err_and c.from_residual.result c.from_residual.ensures.1 in
    rw (p.1, p.2) (ends (field_at MOST_SHORT) c.in_err-item.field-0.0 c.loop.items.items c.args.count c.loop.counter c.loop.rest.now (items_at (field_at MOST_SHORT) c.args.count c.args.text.now) c.loop-test.true c.in_err-item.ensures c.loop.invariant)

pub loop-preserved : goal.loop-preserved
loop-preserved c =
    rw c.in_ok-push.ensures.items (goes_on (field_at MOST_SHORT) c.loop.items.items c.args.count c.loop.counter c.loop.rest.now c.in_ok-item.item c.in_ok-item.after.now (items_at (field_at MOST_SHORT) c.args.count c.args.text.now) c.loop-test.true c.in_ok-item.ensures c.loop.invariant)

pub returns : goal.returns
returns c = is_done (field_at MOST_SHORT) c.loop.items.items c.args.count c.loop.counter c.loop.rest.now (items_at (field_at MOST_SHORT) c.args.count c.args.text.now) c.loop-test.false c.loop.invariant
