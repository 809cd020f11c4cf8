-- The laws' statements.
use Rattle.scan_types.specs.declared.selection.Selection.{Selection}
use Rattle.scan_types.specs.declared.rule.VoidRule.{VoidRule}
use Rattle.bet_definitions.specs.declared.market.Market.{Market}
use Rattle.bet_definitions.specs.Tables.{IsOneWord}
use Rattle.bet_definitions.specs.Bets.{rule_text, rule_words, market_text, market_words, bet_form, side_words}

-- the word of a rule is read as the rule, and no other text is
abbrev pub RulesHaveOneWord : Type 0
RulesHaveOneWord = (rule : VoidRule) → IsOneWord rule_words (rule_text rule) rule

-- the word of a market is read as the market, and no other text is
abbrev pub MarketsHaveOneWord : Type 0
MarketsHaveOneWord = (market : Market) → IsOneWord market_words (market_text market) market

-- after the word of its market and its line, the side of a bet is read as the bet, and no other text is
abbrev pub BetsHaveOneWord : Type 0
BetsHaveOneWord = (bet : Selection) → IsOneWord (side_words (bet_form bet).market (bet_form bet).line) (bet_form bet).side bet
