-- Words that are well formed: a subcommand's word, then its options, each at most once, then its positional words, none of which is
-- empty or begins with a hyphen, with all numbers in form and range.
use Rattle.std.specs.Prelude.{ℕ, ◌≡◌, ◌⊎◌, ◌≤◌, ◌==◌, Bool, true, false, not, List, [], ◌∷◌, ◌++◌, length, Some, codes}
use Rattle.std.specs.List.{list_all}
use Rattle.clap.specs.Words.{Text}
use Rattle.scan_types.specs.declared.limits.TheConstants.{DEFAULT_PIVOTS, MOST_FEEDS, MOST_PIVOTS}
use Rattle.desk_words.specs.Numbers.{number_in}
use Rattle.desk_words.specs.declared.command.Command.{Command}
use Rattle.desk_words.specs.declared.command.Command.TheVariants.{Once, Help, Version}

-- the word is not empty and does not begin with a hyphen (45)
abbrev pub is_positional_word : Text → Bool
is_positional_word [] = false
is_positional_word (byte ∷ bytes) = not (byte == 45)

-- the option is left out, or it is `--pivots=N` or `--pivots N`
abbrev pub IsPivotsOption : List Text → ℕ → Type 0
IsPivotsOption words pivots = ((words ≡ []) × (pivots ≡ DEFAULT_PIVOTS))
    ⊎ ((number : Text) × (number_in 1 MOST_PIVOTS number ≡ Some pivots)
    × ((words ≡ (codes "--pivots=" ++ number) ∷ []) ⊎ (words ≡ codes "--pivots" ∷ number ∷ [])))

-- `once` with so many pivots, and with these feeds
pub record AreOnceWords (words : List Text) (pivots : ℕ) (feeds : List Text) : Type 0 where
  pub options : List Text
  pub spelled : words ≡ codes "once" ∷ options ++ feeds
  pub option_form : IsPivotsOption options pivots
  pub some_feeds : 1 ≤ length feeds
  pub few_feeds : length feeds ≤ MOST_FEEDS
  pub plain_feeds : list_all is_positional_word feeds ≡ true

-- the one word that asks which commands there are
abbrev pub AreHelpWords : List Text → Type 0
AreHelpWords words = (words ≡ codes "--help" ∷ []) ⊎ (words ≡ codes "-h" ∷ [])

-- the one word that asks for the version
abbrev pub AreVersionWords : List Text → Type 0
AreVersionWords words = (words ≡ codes "--version" ∷ []) ⊎ (words ≡ codes "-V" ∷ [])

-- the words are well formed, and spell this command
abbrev pub AreWordsOf : List Text → Command → Type 0
AreWordsOf words (Once pivots feeds) = AreOnceWords words pivots feeds
AreWordsOf words Help = AreHelpWords words
AreWordsOf words Version = AreVersionWords words
