use Rattle.std.proofs.Common.{◌≡◌, ◌<◌, ◌^◌, ◌<ℤ◌, [], ◌∷◌, pos, unsigned_abs, ap, subst, subst₂, sym, ◌∙◌, to_z-of_z}
use Rattle.std.specs.Int.{w128, IsGcd}
use Rattle.std.proofs.lemmas.Int.{to_z_pos, fits_signed_from_abs}
use Rattle.row_definitions.specs.Rows.{row_divisor}
use Rattle.row_definitions.proofs.Numbers.{above_zero}
use Rattle.fraction_rows.proofs.Scan.{row_divisor-pair, row_divisor-pair-pos, row_divisor-lt, FitsEntry-pair}
use Rattle.fraction_rows.proofs.divisor.divisor_of_pair.Goals as goal

result_is : (c : goal.After-common_divisor) → c.common_divisor.result ≡ row_divisor (c.args.first ∷ c.args.second ∷ [])
result_is c =
    let g = c.common_divisor.result in
    let first = c.unsigned_abs.ensures.value ∙ ap unsigned_abs (to_z-of_z c.ranges.first) in
    let second = c.unsigned_abs-2.ensures.value ∙ ap unsigned_abs (to_z-of_z c.ranges.second) in
    row_divisor-pair c.args.first c.args.second g (subst₂ (λ m n. IsGcd m n g) first second c.common_divisor.ensures)

fits : (c : goal.After-common_divisor) → c.common_divisor.result < 2 ^ 127
fits c =
    subst (λ n. n < 2 ^ 127) (sym (result_is c)) (row_divisor-lt (c.args.first ∷ c.args.second ∷ []) (FitsEntry-pair c.args.first c.args.second c.requires.first_fits c.requires.second_fits))

pub overflow_cast-result : goal.overflow_cast-result
overflow_cast-result c = fits_signed_from_abs w128 (pos c.common_divisor.result) (fits c)

pub returns-clause-value : goal.returns-clause-value
returns-clause-value c = to_z_pos w128 c.common_divisor.result (fits c) ∙ ap pos (result_is c)

pub returns-clause-positive : goal.returns-clause-positive
returns-clause-positive c =
    let value = to_z_pos w128 c.common_divisor.result (fits c) ∙ ap pos (result_is c) in
    subst (λ z. pos 0 <ℤ z) (sym value) (above_zero (row_divisor (c.args.first ∷ c.args.second ∷ [])) (row_divisor-pair-pos c.args.first c.args.second c.requires.positive))
