use Rattle.std.proofs.Common.{ℕ, ◌≤◌, ap, ap₂, subst, sym, ◌∙◌, to_z-of_z, SFits, rules}
use Rattle.std.specs.Prelude.{unsigned_abs}
use Rattle.std.specs.Int.{w128}
use Rattle.judging_definitions.specs.Stakes.{Fraction}
use Rattle.coherence_lp.proofs.EndFacts.{value_is, value_stands}
use Rattle.coherence_lp.proofs.ratios.column_ratio.Goals as goal

pub returns-clause-value : goal.returns-clause-value
returns-clause-value c =
    let top : SFits w128 c.value-numerator.result.0 = search rules in
    let bottom : SFits w128 c.value-numerator.result.1 = search rules in
    let f : ℕ → ℕ → Fraction = λ a b. record { numerator = a; denominator = b } in
    ap₂ f (c.unsigned_abs.ensures.value ∙ ap unsigned_abs (to_z-of_z top)) (c.unsigned_abs-2.ensures.value ∙ ap unsigned_abs (to_z-of_z bottom))
    ∙ sym (value_is c.args.tableau.now c.args.column c.value-numerator.result c.value-numerator.ensures)

pub returns-clause-stands : goal.returns-clause-stands
returns-clause-stands c =
    let bottom : SFits w128 c.value-numerator.result.1 = search rules in
    let P : ℕ → Type 0 = λ n. 1 ≤ n in
    subst P (sym (c.unsigned_abs-2.ensures.value ∙ ap unsigned_abs (to_z-of_z bottom))) (value_stands c.args.tableau.now c.args.column c.value-numerator.result c.requires.end c.value-numerator.ensures)
