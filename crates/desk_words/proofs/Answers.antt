-- What the answer of a reading says of words that give a command.
use Rattle.std.proofs.Common.{◌≡◌, Option, Some, Result, Ok, Err, refl}
use Rattle.std.specs.Prelude.{MatchResult}
use Rattle.desk_words.specs.Commands.{Answers}
use Rattle.desk_words.specs.declared.command.Command.{Command}
use Rattle.desk_words.specs.declared.command.WordsFault.{WordsFault}
use Rattle.desk_words.specs.declared.command.WordsFault.TheVariants.{NoCommand, WantOfMemory}

pub answer_due : (due : Option Command) (r : Result Command WordsFault) (command : Command) → Answers due r → due ≡ Some command
    → MatchResult r (λ x. x ≡ command) (λ fault. fault ≡ WantOfMemory)
answer_due due (Ok x) command h e = cc
answer_due due (Err NoCommand) command h e = absurd (cc)
answer_due due (Err WantOfMemory) command h e = refl
