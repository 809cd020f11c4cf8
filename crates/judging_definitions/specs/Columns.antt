-- The columns of a sheet's programs: what each offer gains at the classes of the sheet, in lowest terms, and the offers that lead.
use Rattle.std.specs.Prelude.{ℕ, Bool, not, ◌&&◌, ◌||◌, nat_lt, List, map, filter, ℤ, int_le, int_lt}
use Rattle.std.specs.List.{list_all, list_any, enumerate_from}
use Rattle.row_definitions.specs.Rows.{row_divisor, divided}
use Rattle.scan_types.specs.declared.offer.Offer.{Offer}
use Rattle.scan_types.specs.declared.outcome.Outcome.{Outcome}
use Rattle.settlement_definitions.specs.Gain.{gain}

-- the divisor of an offer: the greatest common divisor of its gains at all classes
abbrev pub offer_divisor : List Outcome → Offer → ℕ
offer_divisor classes offer = row_divisor (map (gain offer) classes)

-- an offer's gain at a class by the offer's divisor
abbrev pub divided_gain : List Outcome → Offer → Outcome → ℤ
divided_gain classes offer x = divided (offer_divisor classes offer) (gain offer x)

-- whether the one offer gains at least as much as the other at every class
abbrev pub gains_no_less : List Outcome → Offer → Offer → Bool
gains_no_less classes other offer = list_all (λ x. int_le (gain offer x) (gain other x)) classes

-- whether the one offer gains more than the other at some class
abbrev pub gains_more_somewhere : List Outcome → Offer → Offer → Bool
gains_more_somewhere classes other offer = list_any (λ x. int_lt (gain offer x) (gain other x)) classes

-- whether the one numbered offer dominates the other: it gains at least as much at every class, and more at some class or has the lower number
abbrev pub dominates : List Outcome → ℕ × Offer → ℕ × Offer → Bool
dominates classes other offer =
    gains_no_less classes other.1 offer.1 && (gains_more_somewhere classes other.1 offer.1 || nat_lt other.0 offer.0)

-- whether no offer of the list dominates this one
abbrev pub is_undominated : List Outcome → List (ℕ × Offer) → ℕ × Offer → Bool
is_undominated classes others offer = not (list_any (λ other. dominates classes other offer) others)

-- the leading offers, each with its number on the sheet: those that no offer of the sheet dominates
abbrev pub leading_offers : List Offer → List Outcome → List (ℕ × Offer)
leading_offers offers classes = filter (is_undominated classes (enumerate_from 0 offers)) (enumerate_from 0 offers)
