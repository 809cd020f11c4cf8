use Rattle.std.proofs.Common.{◌∷◌, [], refl}
use Rattle.scan_types.specs.declared.rule.VoidRule.TheVariants.{Void, Score, Decided}
use Rattle.bet_definitions.specs.Bets.{rule_text}
use Rattle.bet_definitions.specs.Laws.{RulesHaveOneWord}
use Rattle.bet_definitions.proofs.OneWords.{read_is_spelled}
use Rattle.bet_definitions.proofs.laws.rules_have_one_word.Goals as goal

one : RulesHaveOneWord
one Void = record { is_read = refl; no_other = λ text. read_is_spelled rule_text (Void ∷ Score ∷ Decided ∷ []) text Void }
one Score = record { is_read = refl; no_other = λ text. read_is_spelled rule_text (Void ∷ Score ∷ Decided ∷ []) text Score }
one Decided = record { is_read = refl; no_other = λ text. read_is_spelled rule_text (Void ∷ Score ∷ Decided ∷ []) text Decided }

pub returns : goal.returns
returns c = one
