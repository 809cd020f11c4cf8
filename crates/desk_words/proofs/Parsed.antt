-- What a parse by `clap` says, once its command is known to be the program.
use Rattle.std.proofs.Common.{◌≡◌, Bool, true, false, List, [], refl, subst}
use Rattle.clap.specs.Words.{App, HasMatchesOf, Text, fault_of, is_simple_and_free, subcommand_of, subcommand_rows_of, takes}
use Rattle.clap.specs.declared.error.ErrorKind.{ErrorKind}
use Rattle.clap.specs.declared.error.ErrorKind.TheVariants.{OutOfMemory}
use Rattle.clap.specs.declared.parser.matches.ArgMatches.{ArgMatches}
use Rattle.desk_words.specs.Program.{program}
use Rattle.desk_words.proofs.TakenWords.{fault_free_taken}

pub parsed_taken : (a : App) (words : List Text) → a ≡ program → (is_simple_and_free a ≡ true → fault_of a words ≡ []) → takes program words ≡ true
parsed_taken a words is kinds =
    let P : App → Type 0 = λ x. is_simple_and_free x ≡ true → fault_of x words ≡ [] in
    fault_free_taken words (subst P is kinds refl)

pub parsed_rows : (a : App) (words : List Text) (m : ArgMatches) → a ≡ program → HasMatchesOf a words m → subcommand_rows_of m ≡ subcommand_of program words
parsed_rows a words m is found =
    let P : App → Type 0 = λ x. HasMatchesOf x words m in
    (subst P is found refl).1

pub refused_words : (a : App) (words : List Text) (kind : ErrorKind) → a ≡ program → (takes a words ≡ true → kind ≡ OutOfMemory) → (kind ≡ OutOfMemory → ⊥) → takes program words ≡ false
refused_words a words kind is passes other = go (takes program words) (let P : App → Type 0 = λ x. takes x words ≡ true → kind ≡ OutOfMemory in subst P is passes)
  where
    go : (b : Bool) → (b ≡ true → kind ≡ OutOfMemory) → b ≡ false
    go true memory = absurd (other (memory refl))
    go false memory = refl
