use Rattle.std.proofs.Common.{ℤ, ◌≡◌, ◌≤◌, ◌<◌, length, get_or, subst, sym, SFits, of_z, to_z, to_z-of_z, rules, arith}
use Rattle.std.specs.Int.{w128}
use Rattle.std.proofs.lemmas.Option.{get_or_from_slice_get}
use Rattle.scan_types.specs.declared.outcome.Outcome.{Outcome}
use Rattle.settlement_definitions.specs.StandIns.{stand_ins}
use Rattle.settlement_laws.proofs.Table.{length-stand_ins}
use Rattle.finding_definitions.specs.Arbitrage.{total_gain}
use Rattle.cert_checker.proofs.Searches.{HoldBefore, before_more}
use Rattle.best_checker.specs.Gains.{IsLower, IsAtLeast}
use Rattle.best_checker.proofs.StandInFacts.{lower_at_most, lower_here, still_at_least, lower_reached, least_of_all}
use Rattle.best_checker.proofs.gains.least_gain.Goals as goal

pub loop-k-preserved : goal.loop-k-preserved
loop-k-preserved c =
    let total : Outcome → ℤ = total_gain c.args.offers.now c.args.parts.now in
    let k = c.loop-k.k in
    let x = c.stand_in.result in
    let old = to_z w128 c.loop-k.least-bits in
    let shown = to_z w128 (of_z w128 c.lower_gain-least.result) in
    let fits : SFits w128 c.lower_gain-least.result = search rules in
    let lower : IsLower total x old shown = subst (λ z. IsLower total x old z) (sym (to_z-of_z fits)) c.lower_gain-least.ensures in
    let at : get_or stand_ins k x ≡ x = get_or_from_slice_get stand_ins k x x c.stand_in.ensures.numbered in
    let before : HoldBefore (IsAtLeast total shown) stand_ins k =
    λ j d below. still_at_least total j (get_or stand_ins j d) old shown (lower_at_most total x old shown lower) (c.loop-k.invariant.0 j d below) in
    let here : IsAtLeast total shown k (get_or stand_ins k x) = subst (λ y. IsAtLeast total shown k y) (sym at) (lower_here total k x old shown lower) in
    let all : length stand_ins ≡ 98 = length-stand_ins in
    let less : k < 98 = c.loop-k-test.true in
    (before_more (IsAtLeast total shown) stand_ins k x (omega arith) before here, lower_reached total x old shown lower c.loop-k.invariant.1)

pub returns : goal.returns
returns c =
    let all : length stand_ins ≡ 98 = length-stand_ins in
    let end : 98 ≤ c.loop-k.k = c.loop-k-test.false in
    least_of_all c.args.offers.now c.args.parts.now (to_z w128 c.loop-k.least-bits)
    (λ j d below. c.loop-k.invariant.0 j d (omega arith)) c.loop-k.invariant.1
