use Rattle.std.proofs.Common.{refl}
use Rattle.scan_types.specs.declared.selection.Selection.TheVariants.{Home, Draw, Away, HandicapHome, HandicapAway, Over, Under}
use Rattle.bet_definitions.specs.declared.market.Market.TheVariants.{OnResult, OnHandicap, OnTotal}
use Rattle.bet_definitions.specs.declared.market.BetLine.TheVariants.{NoLine, Handicap, Total}
use Rattle.bet_definitions.specs.Bets.{bet_form, bets_at}
use Rattle.bet_definitions.specs.Laws.{BetsHaveOneWord}
use Rattle.bet_definitions.proofs.OneWords.{read_is_spelled}
use Rattle.bet_definitions.proofs.laws.bets_have_one_word.Goals as goal

one : BetsHaveOneWord
one Home = record { is_read = refl; no_other = λ text. read_is_spelled (λ bet. (bet_form bet).side) (bets_at OnResult NoLine) text Home }
one Draw = record { is_read = refl; no_other = λ text. read_is_spelled (λ bet. (bet_form bet).side) (bets_at OnResult NoLine) text Draw }
one Away = record { is_read = refl; no_other = λ text. read_is_spelled (λ bet. (bet_form bet).side) (bets_at OnResult NoLine) text Away }
one (HandicapHome line) = record { is_read = refl; no_other = λ text. read_is_spelled (λ bet. (bet_form bet).side) (bets_at OnHandicap (Handicap line)) text (HandicapHome line) }
one (HandicapAway line) = record { is_read = refl; no_other = λ text. read_is_spelled (λ bet. (bet_form bet).side) (bets_at OnHandicap (Handicap line)) text (HandicapAway line) }
one (Over line) = record { is_read = refl; no_other = λ text. read_is_spelled (λ bet. (bet_form bet).side) (bets_at OnTotal (Total line)) text (Over line) }
one (Under line) = record { is_read = refl; no_other = λ text. read_is_spelled (λ bet. (bet_form bet).side) (bets_at OnTotal (Total line)) text (Under line) }

pub returns : goal.returns
returns c = one
