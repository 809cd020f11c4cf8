use Rattle.desk_words.proofs.OnceWords.{spelled_words}
use Rattle.desk_words.proofs.laws.well_formed_words_are_a_command.Goals as goal

pub returns : goal.returns
returns c = spelled_words
