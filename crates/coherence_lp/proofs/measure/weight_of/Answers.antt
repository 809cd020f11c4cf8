use Rattle.std.proofs.Common.{◌∙◌, ap, sym, SFits, to_z-of_z, rules}
use Rattle.std.specs.Prelude.{unsigned_abs, ◌/◌}
use Rattle.std.specs.Int.{w128}
use Rattle.pivot_definitions.specs.Tableaus.{multiplier_of}
use Rattle.coherence_lp.proofs.Divisors.{divided_size, divided_none, divisor_above}
use Rattle.coherence_lp.proofs.measure.weight_of.Goals as goal

pub nonzero_div-result : goal.nonzero_div-result
nonzero_div-result c =
    let f : SFits w128 c.multiplier.result = search rules in
    let size = c.unsigned_abs-size.ensures.value ∙ ap unsigned_abs (to_z-of_z f ∙ c.multiplier.ensures) in
    divisor_above c.args.divisor (unsigned_abs (multiplier_of c.args.tableau.now c.args.row)) (λ none. c.if-size-eq0.false (size ∙ none)) c.requires.divides

pub returns-then-size-eq0 : goal.returns-then-size-eq0
returns-then-size-eq0 c =
    let f : SFits w128 c.multiplier.result = search rules in
    let size = c.unsigned_abs-size.ensures.value ∙ ap unsigned_abs (to_z-of_z f ∙ c.multiplier.ensures) in
    divided_none c.args.divisor (multiplier_of c.args.tableau.now c.args.row) (sym size ∙ c.if-size-eq0.true)

pub returns-else-size-eq0 : goal.returns-else-size-eq0
returns-else-size-eq0 c =
    let f : SFits w128 c.multiplier.result = search rules in
    let size = c.unsigned_abs-size.ensures.value ∙ ap unsigned_abs (to_z-of_z f ∙ c.multiplier.ensures) in
    ap (λ n. n / c.args.divisor) size ∙ divided_size c.args.divisor (multiplier_of c.args.tableau.now c.args.row) (λ none. c.if-size-eq0.false (size ∙ none)) c.requires.divides
