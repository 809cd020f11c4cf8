use Rattle.std.proofs.Common.{map, string_bytes}
use Rattle.desk_words.proofs.Answers.{answer_due}
use Rattle.desk_words.proofs.Causes.{answer_has_cause, cause_is_answered}
use Rattle.desk_words.proofs.OnceWords.{spelled_words}
use Rattle.desk_words.proofs.Ranges.{answer_within}
use Rattle.desk_words.proofs.reading.read_words.Goals as goal

pub returns-clause-in_range : goal.returns-clause-in_range
returns-clause-in_range c = answer_within (map string_bytes c.args.words.now) _ c.read.ensures

pub returns-clause-well_formed : goal.returns-clause-well_formed
returns-clause-well_formed c spelled h = answer_due _ _ spelled c.read.ensures (spelled_words _ spelled h)

pub returns-clause-no_command : goal.returns-clause-no_command
returns-clause-no_command c = answer_has_cause (map string_bytes c.args.words.now) _ c.read.ensures

pub returns-clause-no_command_due : goal.returns-clause-no_command_due
returns-clause-no_command_due c = cause_is_answered (map string_bytes c.args.words.now) _ c.read.ensures
