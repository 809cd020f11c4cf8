-- The first run of a sheet: its program without limits, over the offers that lead.
use Rattle.std.specs.Prelude.{ℕ, List, map}
use Rattle.pivot_definitions.specs.Programs.{LinearProgram}
use Rattle.pivot_definitions.specs.Tableaus.{SimplexTableau, built}
use Rattle.pivot_definitions.specs.Runs.{EndsBest}
use Rattle.scan_types.specs.declared.offer.Offer.{Offer}
use Rattle.settlement_definitions.specs.Classes.{classes_of}
use Rattle.judging_definitions.specs.Columns.{leading_offers}
use Rattle.judging_definitions.specs.JudgingPrograms.{homogeneous_program}
use Rattle.judging_definitions.specs.Stakes.{Fraction, fractional_stakes}

-- the program without limits of a sheet
abbrev pub first_program : List Offer → LinearProgram
first_program offers = homogeneous_program (classes_of offers) (map (λ offer. offer.1) (leading_offers offers (classes_of offers)))

-- the fractional stakes of a tableau of that program
abbrev pub first_stakes : List Offer → SimplexTableau → List Fraction
first_stakes offers tableau = fractional_stakes (classes_of offers) offers (map (λ offer. offer.0) (leading_offers offers (classes_of offers))) tableau

-- the run of that program with a budget ends at its best, at this tableau
pub record FirstRunEndsBest (offers : List Offer) (budget : ℕ) (end : SimplexTableau) : Type 0 where
  pub pivots : ℕ
  pub ends : EndsBest (built (first_program offers)) budget pivots end
