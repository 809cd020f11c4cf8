-- The class rows of a program, written out of a table of what each offer gains at each class by the offer's divisor.
use Rattle.std.specs.Prelude.{ℕ, ◌+◌, ◌*◌, List, ◌∷◌, map, ℤ, neg_ℤ}
use Rattle.std.specs.List.{flat_map, range_with_len}
use Rattle.row_definitions.specs.Rows.{entry, primitive_row}
use Rattle.scan_types.specs.declared.offer.Offer.{Offer}
use Rattle.scan_types.specs.declared.outcome.Outcome.{Outcome}
use Rattle.settlement_definitions.specs.Gain.{gain}

-- what an offer gains at each class, by its divisor
abbrev pub divided_gains : List Outcome → Offer → List ℤ
divided_gains classes offer = primitive_row (map (gain offer) classes)

-- what each offer gains at each class, by its divisor, offer by offer
abbrev pub divided_table : List Outcome → List Offer → List ℤ
divided_table classes offers = flat_map (divided_gains classes) offers

-- the row of class `j` out of such a table of so many classes: what the level asks for there, and less what each offer gains there
abbrev pub row_of_class : List ℤ → ℕ → ℕ → ℤ → ℕ → List ℤ
row_of_class gains width count asked j = asked ∷ map (λ i. neg_ℤ (entry gains (i * width + j))) (range_with_len 0 count)

-- the rows of so many classes, one after another
abbrev pub rows_of_classes : List ℤ → List ℤ → ℕ → ℕ → List ℤ
rows_of_classes asked gains count width = flat_map (λ j. row_of_class gains width count (entry asked j) j) (range_with_len 0 width)
