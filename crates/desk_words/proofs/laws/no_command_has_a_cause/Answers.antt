use Rattle.desk_words.proofs.Causes.{cause_from, cause_is_enough}
use Rattle.desk_words.proofs.laws.no_command_has_a_cause.Goals as goal

pub returns : goal.returns
returns c words = (cause_from words, cause_is_enough words)
