use Rattle.std.proofs.Common.{◌≡◌, ◌*◌, ◌/◌, get_or, ap₂, arith}
use Rattle.verdict_maker.proofs.ScaleFacts.{stake_small}
use Rattle.verdict_maker.proofs.scaling.scaled_floors.Goals as goal

pub overflow_cast-stake : goal.overflow_cast-stake
overflow_cast-stake c =
    let limit = c.binding-least.result.limit in
    let item = c.binding-least.result.item in
    let part = get_or c.args.items.now c.loop-k.k 0 in
    let small = stake_small limit item c.args.offers.now c.args.items.now c.loop-k.k c.binding-least.ensures.above_zero c.binding-least.ensures.binds c.loop-k-test.true in
    let product : c.from.result * c.from-in-loop-k.result ≡ limit * part = ap₂ (λ a b. a * b) c.from.ensures c.from-in-loop-k.ensures in
    let same : c.from.result * c.from-in-loop-k.result / c.from-in-loop-k-2.result ≡ limit * part / item = ap₂ (λ a b. a / b) product c.from-in-loop-k-2.ensures in
    omega (arith, same, small)
