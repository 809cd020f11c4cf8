use Rattle.std.proofs.Common.{◌≡◌, pos, int_div, unsigned_abs, ap, subst₂, sym, ◌∙◌, SFits, of_z, to_z, to_z-of_z, rules}
use Rattle.std.specs.Int.{w128, IsGcd}
use Rattle.best_checker.specs.Amounts.{IsLowest}
use Rattle.best_checker.proofs.LowestTerms.{lowest_is, natural}
use Rattle.best_checker.proofs.fractions.in_lowest_terms.Goals as goal

pub returns : goal.returns
returns c =
    let d = c.divisor_of-divisor.result in
    let top = c.args.top in
    let bottom = c.args.bottom in
    let g = unsigned_abs d in
    let whole : d ≡ pos g = natural d c.divisor_of-divisor.ensures.positive in
    let d_fits : SFits w128 d = search rules in
    let x_fits : SFits w128 c.quotient.result = search rules in
    let y_fits : SFits w128 c.quotient-2.result = search rules in
    let by : to_z w128 (of_z w128 d) ≡ pos g = to_z-of_z d_fits ∙ whole in
    let x : to_z w128 (of_z w128 c.quotient.result) ≡ int_div top (pos g) =
    to_z-of_z x_fits ∙ c.quotient.ensures ∙ ap (λ z. int_div z (to_z w128 (of_z w128 d))) (to_z-of_z c.ranges.top) ∙ ap (λ z. int_div top z) by in
    let y : to_z w128 (of_z w128 c.quotient-2.result) ≡ int_div bottom (pos g) =
    to_z-of_z y_fits ∙ c.quotient-2.ensures ∙ ap (λ z. int_div z (to_z w128 (of_z w128 d))) (to_z-of_z c.ranges.bottom) ∙ ap (λ z. int_div bottom z) by in
    let is : IsGcd (unsigned_abs top) (unsigned_abs bottom) g =
    subst₂ (λ m n. IsGcd (unsigned_abs m) (unsigned_abs n) g) (to_z-of_z c.ranges.top) (to_z-of_z c.ranges.bottom) c.divisor_of-divisor.ensures.greatest in
    subst₂ (λ m n. IsLowest top bottom (m, n)) (sym x) (sym y) (lowest_is top bottom g c.requires is)
