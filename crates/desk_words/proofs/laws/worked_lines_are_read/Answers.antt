use Rattle.desk_words.proofs.WorkedLines.{lines_are_read}
use Rattle.desk_words.proofs.laws.worked_lines_are_read.Goals as goal

pub returns : goal.returns
returns c = lines_are_read
