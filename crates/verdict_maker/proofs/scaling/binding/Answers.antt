use Rattle.std.proofs.Common.{◌≡◌, ◌+◌, ◌*◌, ◌^◌, ◌<◌, ◌≤◌, length, get_or, sym, ap, ap₂, ◌∙◌, subst₂, arith}
use Rattle.std.specs.List.{AllZip}
use Rattle.std.proofs.lemmas.List.{take_all}
use Rattle.scan_types.specs.declared.offer.Offer.{Offer}
use Rattle.verdict_maker.proofs.ScaleFacts.{IsNoLess, BoundSoFar, bound_none, bound_kept, bound_replaced, bound_some, binds_all, product_small}
use Rattle.verdict_maker.proofs.scaling.binding.Goals.{then-from, else-from}
use Rattle.verdict_maker.proofs.scaling.binding.Goals as goal

pub loop-k-init : goal.loop-k-init
loop-k-init c = bound_none c.args.offers.now c.args.items.now

pub overflow_mul-from : goal.overflow_mul-from
overflow_mul-from c =
    let so_far = c.loop-k.invariant in
    let o = c.index-offers-k.result in
    let from_is : c.from.result ≡ o.limit = c.from.ensures ∙ ap (λ (x : Offer). x.limit) (sym c.index-offers-k.is) in
    let first : c.from.result ≤ 100000000 = omega (arith, from_is, o.limit_at_most) in
    let second : c.from-in-loop-k.result < 2 ^ 64 = omega (arith, c.from-in-loop-k.ensures, so_far.item_small) in
    let most = product_small c.from.result c.from-in-loop-k.result first second in
    omega (arith, most)

pub overflow_mul-from-in-loop-k : goal.overflow_mul-from-in-loop-k
overflow_mul-from-in-loop-k c =
    let so_far = c.loop-k.invariant in
    let first : c.from-in-loop-k-2.result ≤ 100000000 = omega (arith, c.from-in-loop-k-2.ensures, so_far.limit_small) in
    let second : c.from-in-loop-k-3.result < 2 ^ 64 = omega (arith, c.from-in-loop-k-3.ensures, c.type_inv.items c.loop-k.k) in
    let most = product_small c.from-in-loop-k-2.result c.from-in-loop-k-3.result first second in
    omega (arith, most)

pub loop-k-preserved : goal.loop-k-preserved
loop-k-preserved c =
    let offers = c.args.offers.now in
    let items = c.args.items.now in
    let k = c.loop-k.k in
    let limit = c.loop-k.limit in
    let item = c.loop-k.item in
    let o = c.index-offers-k.result in
    let part = get_or items k 0 in
    let h : k < length offers = c.loop-k-test.true in
    let g : k < length items = omega (arith, h, c.requires.each) in
    let small : part < 2 ^ 64 = omega (arith, c.type_inv.items k) in
    let from_is : c.from.result ≡ o.limit = c.from.ensures ∙ ap (λ (x : Offer). x.limit) (sym c.index-offers-k.is) in
    let mine : c.from.result * c.from-in-loop-k.result ≡ o.limit * item = ap₂ (λ a b. a * b) from_is c.from-in-loop-k.ensures in
    let theirs : c.from-in-loop-k-2.result * c.from-in-loop-k-3.result ≡ limit * part = ap₂ (λ a b. a * b) c.from-in-loop-k-2.ensures c.from-in-loop-k-3.ensures in
    elim c.if-from.branch [
      | then-from w ↦
          let less : o.limit * item < limit * part = omega (arith, w.if-from.true, mine, theirs) in
          let limit_is : o.limit ≡ c.if-from.limit = ap (λ (x : Offer). x.limit) c.index-offers-k.is ∙ sym w.limit-is in
          subst₂ (BoundSoFar offers items (k + 1)) limit_is (sym w.item-is) (bound_replaced offers items k limit item o h g c.index-offers-k.is small c.loop-k.invariant less)
      | else-from w ↦
          let more : limit * part ≤ o.limit * item = omega (arith, w.if-from.false, mine, theirs) in
          subst₂ (BoundSoFar offers items (k + 1)) (sym w.limit-is) (sym w.item-is) (bound_kept offers items k limit item o h g c.index-offers-k.is c.loop-k.invariant more)
    ]

pub returns-clause-above_zero : goal.returns-clause-above_zero
returns-clause-above_zero c =
    let offers = c.args.offers.now in
    let items = c.args.items.now in
    let all = subst₂ (λ xs ys. AllZip (IsNoLess c.loop-k.limit c.loop-k.item) xs ys) (take_all c.loop-k.k offers c.loop-k-test.false) (take_all c.loop-k.k items (omega (arith, c.loop-k-test.false, c.requires.each))) c.loop-k.invariant.no_less in
    bound_some c.loop-k.limit c.loop-k.item offers items c.loop-k.invariant.some all c.requires.some.0 c.requires.some.1 c.requires.some.2

pub returns-clause-stands : goal.returns-clause-stands
returns-clause-stands c =
    let offers = c.args.offers.now in
    let items = c.args.items.now in
    let all = subst₂ (λ xs ys. AllZip (IsNoLess c.loop-k.limit c.loop-k.item) xs ys) (take_all c.loop-k.k offers c.loop-k-test.false) (take_all c.loop-k.k items (omega (arith, c.loop-k-test.false, c.requires.each))) c.loop-k.invariant.no_less in
    c.loop-k.invariant.stands (bound_some c.loop-k.limit c.loop-k.item offers items c.loop-k.invariant.some all c.requires.some.0 c.requires.some.1 c.requires.some.2)

pub returns-clause-binds : goal.returns-clause-binds
returns-clause-binds c =
    let offers = c.args.offers.now in
    let items = c.args.items.now in
    let all = subst₂ (λ xs ys. AllZip (IsNoLess c.loop-k.limit c.loop-k.item) xs ys) (take_all c.loop-k.k offers c.loop-k-test.false) (take_all c.loop-k.k items (omega (arith, c.loop-k-test.false, c.requires.each))) c.loop-k.invariant.no_less in
    binds_all c.loop-k.limit c.loop-k.item offers items all
