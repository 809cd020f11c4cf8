-- The words of a bet, as tables.
use Rattle.std.specs.Prelude.{ℕ, List, [], ◌∷◌, ◌++◌, codes}
use Rattle.scan_types.specs.declared.selection.Selection.{Selection}
use Rattle.scan_types.specs.declared.selection.Selection.TheVariants.{Home, Draw, Away, HandicapHome, HandicapAway, Over, Under}
use Rattle.scan_types.specs.declared.rule.VoidRule.{VoidRule}
use Rattle.scan_types.specs.declared.rule.VoidRule.TheVariants.{Void, Score, Decided}
use Rattle.number_definitions.specs.Spellings.{quarters_text, handicap_text}
use Rattle.bet_definitions.specs.declared.market.Market.{Market}
use Rattle.bet_definitions.specs.declared.market.Market.TheVariants.{OnResult, OnHandicap, OnTotal}
use Rattle.bet_definitions.specs.declared.market.LineKind.{LineKind}
use Rattle.bet_definitions.specs.declared.market.LineKind.TheVariants as kind
use Rattle.bet_definitions.specs.declared.market.BetLine.{BetLine}
use Rattle.bet_definitions.specs.declared.market.BetLine.TheVariants as at
use Rattle.bet_definitions.specs.Tables.{table_of}

-- how a book settles abandoned matches

abbrev pub rule_text : VoidRule → List ℕ
rule_text Void = codes "void"
rule_text Score = codes "score"
rule_text Decided = codes "decided"

abbrev pub rule_words : List (List ℕ × VoidRule)
rule_words = table_of rule_text (Void ∷ Score ∷ Decided ∷ [])

-- the markets

abbrev pub market_text : Market → List ℕ
market_text OnResult = codes "1x2"
market_text OnHandicap = codes "ah"
market_text OnTotal = codes "total"

abbrev pub market_words : List (List ℕ × Market)
market_words = table_of market_text (OnResult ∷ OnHandicap ∷ OnTotal ∷ [])

-- which lines the bets of a market have
abbrev pub line_kind : Market → LineKind
line_kind OnResult = kind.NoLine
line_kind OnHandicap = kind.Handicap
line_kind OnTotal = kind.Total

-- the bets on a market at a line: none at a line that the market does not have
abbrev pub bets_at : Market → BetLine → List Selection
bets_at OnResult at.NoLine = Home ∷ Draw ∷ Away ∷ []
bets_at OnHandicap (at.Handicap line) = HandicapHome line ∷ HandicapAway line ∷ []
bets_at OnTotal (at.Total line) = Over line ∷ Under line ∷ []
bets_at _ _ = []

-- how a bet is written: its market, its line if the market has lines, and its side
pub record BetForm : Type 0 where
  pub market : Market
  pub line : BetLine
  pub side : List ℕ

abbrev pub bet_form : Selection → BetForm
bet_form Home = record { market = OnResult; line = at.NoLine; side = codes "home" }
bet_form Draw = record { market = OnResult; line = at.NoLine; side = codes "draw" }
bet_form Away = record { market = OnResult; line = at.NoLine; side = codes "away" }
bet_form (HandicapHome line) = record { market = OnHandicap; line = at.Handicap line; side = codes "home" }
bet_form (HandicapAway line) = record { market = OnHandicap; line = at.Handicap line; side = codes "away" }
bet_form (Over line) = record { market = OnTotal; line = at.Total line; side = codes "over" }
bet_form (Under line) = record { market = OnTotal; line = at.Total line; side = codes "under" }

-- the sides of a market at a line, each as the bet on it
abbrev pub side_words : Market → BetLine → List (List ℕ × Selection)
side_words market line = table_of (λ bet. (bet_form bet).side) (bets_at market line)

-- the one spelling of a line, as the fields that it takes
abbrev pub line_fields : BetLine → List (List ℕ)
line_fields at.NoLine = []
line_fields (at.Handicap line) = handicap_text line.quarters ∷ []
line_fields (at.Total line) = quarters_text line.quarters ∷ []

abbrev pub form_fields : BetForm → List (List ℕ)
form_fields form = market_text form.market ∷ (line_fields form.line ++ form.side ∷ [])

-- the one spelling of a bet, as fields
abbrev pub selection_fields : Selection → List (List ℕ)
selection_fields selection = form_fields (bet_form selection)
