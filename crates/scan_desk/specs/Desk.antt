-- What a run of the desk is, by the words that it was given.
use Rattle.std.specs.Prelude.{ℕ, ◌≡◌, ◌≢◌, List, Option, Some, None}
use Rattle.clap.specs.Words.{Text}
use Rattle.desk_words.specs.declared.command.Command.{Command}
use Rattle.desk_words.specs.declared.command.Command.TheVariants.{Once, Help, Version}
use Rattle.desk_words.specs.Commands.{IsNoCommand, command_of}
use Rattle.desk_words.specs.WellFormed.{AreWordsOf}
use Rattle.desk_definitions.specs.declared.feed_end.FeedEnd.{FeedEnd}
use Rattle.desk_definitions.specs.declared.status.TheConstants.{DONE, NO_COMMAND}
use Rattle.desk_definitions.specs.Texts.{no_command, usage, version}
use Rattle.desk_definitions.specs.Seen.{Due, OpenerSeen, SinkSeen}
use Rattle.desk_definitions.specs.Course.{Handed, StatusAlone, OfFeeds, Outcome, IsCourse, SaysOnly, ends_of, history_of}
use Rattle.desk_definitions.specs.Causes.{HasCauses, HasTextCauses, IsOrYields}
use Rattle.board_definitions.specs.declared.event.Entry.{Entry}

-- what is due if the words are no command
abbrev pub refusal : Due
refusal = record { status = NO_COMMAND; text = no_command }

-- what is due for help, and for the version
abbrev pub help : Due
help = record { status = DONE; text = usage }

abbrev pub version_told : Due
version_told = record { status = DONE; text = version }

-- the command opens and reads nothing
abbrev pub ReadsNone : Command → Type 0
ReadsNone (Once pivots feeds) = ⊥
ReadsNone Help = Unit {0}
ReadsNone Version = Unit {0}

-- how the words are answered
pub record AnswersWords {O : Type 0} (words : List Text) (before after : O) (status : ℕ) : Type 0 where
  -- status 2 comes only if the words are no command
  pub no_command : status ≡ NO_COMMAND → IsNoCommand words
  -- it is due then
  pub no_command_due : IsNoCommand words → IsOrYields NO_COMMAND status
  -- well-formed words are the command that they spell, and never refused
  pub well_formed : (command : Command) → AreWordsOf words command → (command_of words ≡ Some command) × (status ≢ NO_COMMAND)
  -- words that are no command leave the opener as it was
  pub untouched : IsNoCommand words → after ≡ before
  -- and so does a command that reads no feed
  pub no_feed : (command : Command) → command_of words ≡ Some command → ReadsNone command → after ≡ before

-- the command reads the feeds of these names, with so many pivots for each run of a program
abbrev pub ReadsFeeds : Option Command → List Text → ℕ → Type 0
ReadsFeeds (Some (Once pivots feeds)) names budget = (feeds ≡ names) × (pivots ≡ budget)
ReadsFeeds _ names budget = ⊥

module _ {S : Type 0} (left : S → Option (List ℕ)) (faults : S → ℕ) where
  -- the run of a command, or if there is none, with what is handed out
  abbrev pub IsCourseOf : Option Command → OpenerSeen → Handed S → ℕ → SinkSeen → Type 0
  IsCourseOf None opener StatusAlone status sink = SaysOnly refusal opener status sink
  IsCourseOf (Some Help) opener StatusAlone status sink = SaysOnly help opener status sink
  IsCourseOf (Some Version) opener StatusAlone status sink = SaysOnly version_told opener status sink
  IsCourseOf (Some (Once pivots feeds)) opener (OfFeeds out) status sink = IsCourse left faults feeds pivots opener out status sink
  IsCourseOf _ opener _ status sink = ⊥

  -- the run of a command, handed out in these lists
  pub record IsRunOf (command : Option Command) (opener : OpenerSeen) (ends : List (FeedEnd S)) (history : List Entry) (status : ℕ) (sink : SinkSeen) : Type 0 where
    pub handed : Handed S
    pub ends_are : ends ≡ ends_of handed
    pub history_is : history ≡ history_of handed
    pub course : IsCourseOf command opener handed status sink

  -- why the run of a command, or the run if there is none, has its status
  abbrev pub HasCausesOf : Option Command → OpenerSeen → Outcome S → ℕ → SinkSeen → Type 0
  HasCausesOf None opener out status sink = HasTextCauses refusal opener status sink
  HasCausesOf (Some Help) opener out status sink = HasTextCauses help opener status sink
  HasCausesOf (Some Version) opener out status sink = HasTextCauses version_told opener status sink
  HasCausesOf (Some (Once pivots feeds)) opener out status sink = HasCauses left faults feeds pivots opener out status sink
