use Rattle.std.proofs.Common.{◌≡◌, ℕ, ◌<◌, ◌<ℤ◌, List, [], ◌∷◌, length, ℤ, pos, unsigned_abs, ap₂, subst, sym, ◌∙◌, SFits, to_z, of_z, to_z-of_z, rules, arith}
use Rattle.std.specs.Int.{w128}
use Rattle.row_definitions.specs.Rows.{entry, divided, row_divisor}
use Rattle.row_definitions.specs.Combination.{FitsEntry, column_divisor}
use Rattle.row_definitions.proofs.Numbers.{above_zero}
use Rattle.row_definitions.proofs.Combinations.{column_divisor-pos}
use Rattle.fraction_rows.proofs.Scan.{FitsEntry-pair}
use Rattle.fraction_rows.proofs.plain.plain_factors.Goals as goal

pub plain_divisor-divisor-requires : goal.plain_divisor-divisor-requires
plain_divisor-divisor-requires c =
    let target = c.args.target.now in
    let pivot = c.args.pivot.now in
    let at = c.args.at in
    let in_pivot : at < length pivot = omega (arith, c.requires.lengths, c.requires.within) in
    let p : SFits w128 (entry pivot at) = search rules in
    let t : SFits w128 (entry target at) = search rules in
    FitsEntry-pair _ _ (subst FitsEntry (sym (to_z-of_z p)) (c.requires.pivot_fits at (pos 0) in_pivot)) (subst FitsEntry (sym (to_z-of_z t)) (c.requires.target_fits at (pos 0) c.requires.within))

-- the divisor of the two entries as they were read is that of the column
divisor_is : (target pivot : List ℤ) (at : ℕ) (d : ℤ) → SFits w128 (entry target at) → SFits w128 (entry pivot at) → d ≡ pos (row_divisor (to_z w128 (of_z w128 (entry pivot at)) ∷ to_z w128 (of_z w128 (entry target at)) ∷ [])) → d ≡ pos (column_divisor target pivot at)
divisor_is target pivot at d t p is = is ∙ ap₂ (λ x y. pos (row_divisor (x ∷ y ∷ []))) (to_z-of_z p) (to_z-of_z t)

pub quotient-requires : goal.quotient-requires
quotient-requires c =
    let p : SFits w128 (entry c.args.pivot.now c.args.at) = search rules in
    let t : SFits w128 (entry c.args.target.now c.args.at) = search rules in
    let d : SFits w128 c.plain_divisor-divisor.result = search rules in
    subst (λ z. pos 0 <ℤ z) (sym (to_z-of_z d ∙ divisor_is c.args.target.now c.args.pivot.now c.args.at c.plain_divisor-divisor.result t p c.plain_divisor-divisor.ensures)) (above_zero _ (column_divisor-pos c.args.target.now c.args.pivot.now c.args.at c.requires.positive))

pub quotient-requires-2 : goal.quotient-requires-2
quotient-requires-2 c =
    let p : SFits w128 (entry c.args.pivot.now c.args.at) = search rules in
    let t : SFits w128 (entry c.args.target.now c.args.at) = search rules in
    let d : SFits w128 c.plain_divisor-divisor.result = search rules in
    subst (λ z. pos 0 <ℤ z) (sym (to_z-of_z d ∙ divisor_is c.args.target.now c.args.pivot.now c.args.at c.plain_divisor-divisor.result t p c.plain_divisor-divisor.ensures)) (above_zero _ (column_divisor-pos c.args.target.now c.args.pivot.now c.args.at c.requires.positive))

pub returns-clause-target : goal.returns-clause-target
returns-clause-target c =
    let t : SFits w128 (entry c.args.target.now c.args.at) = search rules in
    let d : SFits w128 c.plain_divisor-divisor.result = search rules in
    let p : SFits w128 (entry c.args.pivot.now c.args.at) = search rules in
    let q : SFits w128 c.quotient.result = search rules in
    to_z-of_z q ∙ c.quotient.ensures ∙ ap₂ (λ z x. divided (unsigned_abs z) x) (to_z-of_z d ∙ divisor_is c.args.target.now c.args.pivot.now c.args.at c.plain_divisor-divisor.result t p c.plain_divisor-divisor.ensures) (to_z-of_z p)

pub returns-clause-pivot : goal.returns-clause-pivot
returns-clause-pivot c =
    let p : SFits w128 (entry c.args.pivot.now c.args.at) = search rules in
    let d : SFits w128 c.plain_divisor-divisor.result = search rules in
    let t : SFits w128 (entry c.args.target.now c.args.at) = search rules in
    let q : SFits w128 c.quotient-2.result = search rules in
    to_z-of_z q ∙ c.quotient-2.ensures ∙ ap₂ (λ z x. divided (unsigned_abs z) x) (to_z-of_z d ∙ divisor_is c.args.target.now c.args.pivot.now c.args.at c.plain_divisor-divisor.result t p c.plain_divisor-divisor.ensures) (to_z-of_z t)
