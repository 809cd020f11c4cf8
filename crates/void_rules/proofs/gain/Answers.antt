use Rattle.std.proofs.Common.{◌≡◌, ◌∙◌, ap, w8, w64, arith, ◌+ℤ◌, FitsSigned, to_z, of_z, rules}
use Rattle.std.proofs.lemmas.Int.{ints, to_z-of_z}
use Rattle.settlement_definitions.specs.Abandonment.{leg_at}
use Rattle.settlement_definitions.specs.Gain.{leg_gain}
use Rattle.settlement_definitions.specs.Legs.{legs_of}
use Rattle.void_rules.proofs.gain.Goals as goal

pub returns-clause-exact : goal.returns-clause-exact
returns-clause-exact c =
    let offer = c.args.offer.now in
    let first = c.leg_gain-first.result in
    let second = c.leg_gain-second.result in
    let summed : to_z w64 (of_z w64 (to_z w64 (of_z w64 first) +ℤ to_z w64 (of_z w64 second))) ≡ first +ℤ second = omega (arith, ints) in
    let line_fits : FitsSigned w8 c.line_of.result = search rules in
    let low_fits : FitsSigned w8 c.legs-low.result.0 = search rules in
    let high_fits : FitsSigned w8 c.legs-low.result.1 = search rules in
    let e0 = to_z-of_z w8 c.line_of.result line_fits in
    let e1 = to_z-of_z w8 c.legs-low.result.0 low_fits in
    let e2 = to_z-of_z w8 c.legs-low.result.1 high_fits in
    let split : c.legs-low.result ≡ legs_of offer.selection = cc in
    let low = ap (λ p. p.0) split in
    let high = ap (λ p. p.1) split in
    let gain_first = leg_gain offer.odds.thousandths (leg_at offer.rule offer.selection (legs_of offer.selection).0 c.args.outcome) in
    let first_is = c.leg_gain-first.ensures.exact ∙ ap (leg_gain offer.odds.thousandths) (c.leg_at.ensures ∙ ap (λ leg. leg_at offer.rule offer.selection leg c.args.outcome) (e1 ∙ low)) in
    let second_is = c.leg_gain-second.ensures.exact ∙ ap (leg_gain offer.odds.thousandths) (c.leg_at-2.ensures ∙ ap (λ leg. leg_at offer.rule offer.selection leg c.args.outcome) (e2 ∙ high)) in
    summed ∙ ap (λ z. z +ℤ second) first_is ∙ ap (λ z. gain_first +ℤ z) second_is
