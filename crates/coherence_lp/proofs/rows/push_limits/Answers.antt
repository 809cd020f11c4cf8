use Rattle.std.proofs.Common.{◌≡◌, ℕ, List, [], ◌∷◌, ◌++◌, ◌*◌, ◌≤◌, map, take, zip, get_or, sym, ap, ◌∙◌, arith}
use Rattle.std.specs.Prelude.{pos}
use Rattle.std.specs.Int.{w128}
use Rattle.std.proofs.Math.Nat.{mul-le-mul}
use Rattle.std.proofs.lemmas.Int.{to_z_pos}
use Rattle.std.proofs.lemmas.List.{take_more, take_all, map-append}
use Rattle.std.proofs.lemmas.List.Elements.{All-get_or}
use Rattle.std.proofs.lemmas.Slice.Zip.{length-zip, get_or-zip}
use lib.IntN.{ℤ}
use Rattle.scan_types.specs.declared.offer.Offer.{Offer}
use Rattle.coherence_lp.proofs.Ranges.{behind}
use Rattle.coherence_lp.proofs.rows.push_limits.Goals as goal

-- the right sides of limits
abbrev sides : List (Offer × ℕ) → List ℤ
sides es = map (λ e. pos (e.0.limit * e.1)) es

pub loop-i-preserved : goal.loop-i-preserved
loop-i-preserved c =
    let offers = c.args.offers.now in
    let divisors = c.args.divisors.now in
    let i = c.loop-i.i in
    let o = c.index-offers-i.result in
    let d = get_or divisors i 0 in
    let zs = zip offers divisors in
    let old = c.args.right.now.items in
    let small : d ≤ 2000000 = All-get_or (λ n. n ≤ 2000000) divisors i 0 (omega (arith, c.loop-i-test.true, c.requires.each)) c.requires.small in
    let from_is : c.from.result ≡ o.limit = c.from.ensures ∙ ap (λ (x : Offer). x.limit) (sym c.index-offers-i.is) in
    let limit : c.from.result ≤ 100000000 = omega (arith, from_is, o.limit_at_most) in
    let most : c.from.result * d ≤ 100000000 * 2000000 = mul-le-mul limit small in
    let value = to_z_pos w128 (c.from.result * d) (omega (arith, most)) ∙ ap (λ m. pos (m * d)) from_is in
    let at : get_or zs i (o, 0) ≡ (o, d) = get_or-zip offers divisors i (o, 0) c.loop-i-test.true (omega (arith, c.loop-i-test.true, c.requires.each)) ∙ ap (λ (x : Offer). (x, d)) (sym c.index-offers-i.is) in
    let more = take_more zs i (o, 0) (omega (arith, length-zip offers divisors, c.loop-i-test.true, c.requires.each)) in
    behind old (sides (take i zs)) (pos (o.limit * d) ∷ []) c.loop-i.right.items c.push.new.self.items c.loop-i.invariant (c.in_ok-push.ensures.items ∙ ap (λ v. c.loop-i.right.items ++ v ∷ []) value)
    ∙ ap (λ xs. old ++ xs)
    (sym (ap sides more ∙ map-append (λ (e : Offer × ℕ). pos (e.0.limit * e.1)) (take i zs) (get_or zs i (o, 0) ∷ []) ∙ ap (λ (y : Offer × ℕ). sides (take i zs) ++ pos (y.0.limit * y.1) ∷ []) at))

pub returns : goal.returns
returns c =
    let offers = c.args.offers.now in
    let divisors = c.args.divisors.now in
    c.loop-i.invariant ∙ ap (λ (es : List (Offer × ℕ)). c.args.right.now.items ++ sides es) (take_all c.loop-i.i (zip offers divisors) (omega (arith, length-zip offers divisors, c.loop-i-test.false)))
