-- Why words give no command.
use Rattle.std.proofs.Common.{◌≡◌, ◌∙◌, ℕ, Bool, true, false, cond, List, Option, Some, None, Result, Ok, Err, length, inl, inr, refl, sym, ap, ◌⊎◌}
use Rattle.std.specs.Prelude.{MatchResult, IsErrOf, option_and_then}
use Rattle.clap.specs.Words.{Row, Text, subcommand_of}
use Rattle.desk_words.specs.Program.{program}
use Rattle.desk_words.specs.Commands.{Answers, HasBadValue, IsNoCommand, IsNotParsed, asked_alone, command_of, first_of_both, parsed_command, few_enough, is_feed_count, is_taken, names_in, once_of, pivots_in, subcommand_asks}
use Rattle.desk_words.specs.declared.command.Command.{Command}
use Rattle.desk_words.specs.declared.command.Command.TheVariants.{Once}
use Rattle.desk_words.specs.declared.command.WordsFault.{WordsFault}
use Rattle.desk_words.specs.declared.command.WordsFault.TheVariants.{NoCommand, WantOfMemory}
use Rattle.desk_words.proofs.TakenWords.{taken_names_once}

abbrev asks_of : Option ℕ → Option (List Text) → Option Command
asks_of pivots feeds = option_and_then (λ p. option_and_then (λ names. Some (Once p names)) feeds) pivots

bad_from : (rows : List Row) → once_of rows ≡ None → HasBadValue rows
bad_from rows e = go (pivots_in rows) (is_feed_count (length (names_in rows))) refl refl e
  where
    go : (p : Option ℕ) (b : Bool) → pivots_in rows ≡ p → is_feed_count (length (names_in rows)) ≡ b → asks_of p (cond b (Some (names_in rows)) None) ≡ None → HasBadValue rows
    go None b is counts e = inl is
    go (Some n) true is counts e = absurd (cc)
    go (Some n) false is counts e = inr counts

none_from : (rows : List Row) → HasBadValue rows → once_of rows ≡ None
none_from rows (inl is) = ap (λ p. asks_of p (few_enough (names_in rows))) is
none_from rows (inr counts) = ap (λ b. asks_of (pivots_in rows) (cond b (Some (names_in rows)) None)) counts ∙ go (pivots_in rows)
  where
    go : (p : Option ℕ) → asks_of p None ≡ None
    go None = refl
    go (Some n) = refl

parsed_from : (words : List Text) → parsed_command words ≡ None → IsNotParsed words
parsed_from words e = go (is_taken words) refl e
  where
    go : (b : Bool) → is_taken words ≡ b → cond b (option_and_then subcommand_asks (subcommand_of program words)) None ≡ None → IsNotParsed words
    go false is e = inl is
    go true is e =
        let named = taken_names_once words is in
        inr (named.0, named.1, bad_from named.0 (sym (ap (option_and_then subcommand_asks) named.1) ∙ e))

parsed_is_enough : (words : List Text) → IsNotParsed words → parsed_command words ≡ None
parsed_is_enough words (inl refused) = ap (λ b. cond b (option_and_then subcommand_asks (subcommand_of program words)) None) refused
parsed_is_enough words (inr (rows, named, bad)) =
    ap (λ o. cond (is_taken words) (option_and_then subcommand_asks o) None) named ∙ ap (λ o. cond (is_taken words) o None) (none_from rows bad) ∙ go (is_taken words)
  where
    go : (b : Bool) → ◌≡◌ {A = Option Command} (cond b None None) None
    go true = refl
    go false = refl

pub cause_from : (words : List Text) → command_of words ≡ None → IsNoCommand words
cause_from words e = go (asked_alone words) refl e
  where
    go : (o : Option Command) → asked_alone words ≡ o → first_of_both o (parsed_command words) ≡ None → IsNoCommand words
    go None is e = (is, parsed_from words e)
    go (Some command) is e = absurd (cc)

pub cause_is_enough : (words : List Text) → IsNoCommand words → command_of words ≡ None
cause_is_enough words h = ap (λ o. first_of_both o (parsed_command words)) h.0 ∙ parsed_is_enough words h.1

pub answer_has_cause : (words : List Text) (r : Result Command WordsFault) → Answers (command_of words) r → IsErrOf r NoCommand → IsNoCommand words
answer_has_cause words (Ok command) h is = absurd (cc)
answer_has_cause words (Err NoCommand) h is = cause_from words h
answer_has_cause words (Err WantOfMemory) h is = absurd (cc)

pub cause_is_answered : (words : List Text) (r : Result Command WordsFault) → Answers (command_of words) r → IsNoCommand words
    → MatchResult r (λ _. ⊥) (λ fault. (fault ≡ NoCommand) ⊎ (fault ≡ WantOfMemory))
cause_is_answered words (Ok command) h cause = (let none = cause_is_enough words cause in cc)
cause_is_answered words (Err NoCommand) h cause = inl refl
cause_is_answered words (Err WantOfMemory) h cause = inr refl
