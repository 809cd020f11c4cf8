use Rattle.std.proofs.Common.{◌/◌, ◌≤◌, ◌<◌, rules}
use Rattle.coherence_lp.proofs.Multiples.{small_product, large_product, no_product}
use Rattle.coherence_lp.proofs.factors.product_within.Goals as goal

pub overflow_mul-result : goal.overflow_mul-result
overflow_mul-result c =
    let small = small_product c.args.x c.args.y c.args.most (let h : c.args.x ≤ c.args.most / c.args.y = search rules in h) in
    search rules

pub returns-then-y-eq0-clause-value : goal.returns-then-y-eq0-clause-value
returns-then-y-eq0-clause-value c = no_product c.args.x c.args.y c.if-y-eq0.true

pub returns-then-x-most-clause-none : goal.returns-then-x-most-clause-none
returns-then-x-most-clause-none c = large_product c.args.x c.args.y c.args.most (let h : 0 < c.args.y = search rules in h) c.if-x-most.true

pub returns-clause-small : goal.returns-clause-small
returns-clause-small c = small_product c.args.x c.args.y c.args.most c.if-x-most.false
