-- What holds of the words themselves.
use Rattle.std.specs.Prelude.{◌≡◌, List, Some, None}
use Rattle.clap.specs.Words.{Text}
use Rattle.desk_words.specs.Commands.{IsNoCommand, command_of}
use Rattle.desk_words.specs.WellFormed.{AreWordsOf}
use Rattle.desk_words.specs.declared.command.Command.{Command}

-- well-formed words give the command that they spell
abbrev pub WellFormedWordsAreACommand : Type 0
WellFormedWordsAreACommand = (words : List Text) (command : Command) → AreWordsOf words command → command_of words ≡ Some command

-- words give no command just if they have a cause for it
abbrev pub NoCommandHasACause : Type 0
NoCommandHasACause = (words : List Text) → (command_of words ≡ None → IsNoCommand words) × (IsNoCommand words → command_of words ≡ None)
