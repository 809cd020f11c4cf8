-- The two linear programs of a sheet. Column 0 is the level; each further column is the stake of an offer, times the offer's divisor.
use Rattle.std.specs.Prelude.{suc, ◌+◌, ◌*◌, List, [], ◌∷◌, ◌++◌, length, map, ℤ, pos, neg_ℤ, ◌*ℤ◌}
use Rattle.std.specs.List.{flat_map, range_with_len}
use Rattle.pivot_definitions.specs.Programs.{LinearProgram, unit_row}
use Rattle.scan_types.specs.declared.offer.Offer.{Offer}
use Rattle.scan_types.specs.declared.outcome.Outcome.{Outcome}
use Rattle.finding_definitions.specs.Arbitrage.{need}
use Rattle.finding_definitions.specs.Verdicts.{need_with_slack}
use Rattle.judging_definitions.specs.Columns.{offer_divisor, divided_gain}

-- the row of a class: what the level asks for there is at most what the offers gain there
abbrev pub class_row : List Outcome → List Offer → (Outcome → ℤ) → Outcome → List ℤ
class_row classes offers asked x = asked x ∷ map (λ offer. neg_ℤ (divided_gain classes offer x)) offers

-- the rows of all classes, one after another
abbrev pub class_rows : List Outcome → List Offer → (Outcome → ℤ) → List ℤ
class_rows classes offers asked = flat_map (class_row classes offers asked) classes

-- the program without limits, over the leading offers: the level is 1 if some stakes gain at every final score and lose at no abandonment, else 0
abbrev pub homogeneous_program : List Outcome → List Offer → LinearProgram
homogeneous_program classes leading =
    let columns = suc (length leading) in
    record {
      columns = columns;
      rows = length classes + 1;
      coefficients = class_rows classes leading need ++ unit_row columns 0;
      right_sides = map (λ x. pos 0) classes ++ pos 1 ∷ [];
    }

-- the rows of the limits: each stake is at most the limit of its offer
abbrev pub limit_rows : List Offer → List ℤ
limit_rows offers = flat_map (λ column. unit_row (suc (length offers)) column) (range_with_len 1 (length offers))

-- the program with limits, over all offers: the level is 1 if some stakes within the limits win what is asked for, in 1/2000 of a minor unit
abbrev pub limited_program : List Outcome → List Offer → (Outcome → ℤ) → LinearProgram
limited_program classes offers asked =
    let columns = suc (length offers) in
    record {
      columns = columns;
      rows = length classes + length offers + 1;
      coefficients = class_rows classes offers asked ++ limit_rows offers ++ unit_row columns 0;
      right_sides = map (λ x. pos 0) classes ++ map (λ offer. pos (offer.limit * offer_divisor classes offer)) offers ++ pos 1 ∷ [];
    }

-- one minor unit at each final score, in 1/2000 of it
abbrev pub plain_need : Outcome → ℤ
plain_need x = pos 2000 *ℤ need x

-- one minor unit at each final score, and what rounding may cost, in 1/2000 of a minor unit
abbrev pub slack_need : List Offer → Outcome → ℤ
slack_need offers x = pos 2 *ℤ need_with_slack offers x
