use Rattle.std.proofs.Common.{◌∷◌, [], refl}
use Rattle.bet_definitions.specs.declared.market.Market.TheVariants.{OnResult, OnHandicap, OnTotal}
use Rattle.bet_definitions.specs.Bets.{market_text}
use Rattle.bet_definitions.specs.Laws.{MarketsHaveOneWord}
use Rattle.bet_definitions.proofs.OneWords.{read_is_spelled}
use Rattle.bet_definitions.proofs.laws.markets_have_one_word.Goals as goal

one : MarketsHaveOneWord
one OnResult = record { is_read = refl; no_other = λ text. read_is_spelled market_text (OnResult ∷ OnHandicap ∷ OnTotal ∷ []) text OnResult }
one OnHandicap = record { is_read = refl; no_other = λ text. read_is_spelled market_text (OnResult ∷ OnHandicap ∷ OnTotal ∷ []) text OnHandicap }
one OnTotal = record { is_read = refl; no_other = λ text. read_is_spelled market_text (OnResult ∷ OnHandicap ∷ OnTotal ∷ []) text OnTotal }

pub returns : goal.returns
returns c = one
