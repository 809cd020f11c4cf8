-- A command that the words give lies within the limits.
use Rattle.std.proofs.Common.{◌≡◌, ℕ, ◌≤◌, Bool, true, false, cond, leb, ◌&&◌, List, [], ◌∷◌, length, Option, Some, None, Result, Ok, Err, IfOk, refl, subst, arith, ◌∙◌}
use Rattle.std.specs.Prelude.{option_and_then, codes}
use Rattle.std.specs.Str.{bytes_eq}
use Rattle.std.proofs.lemmas.Bool.{leb-true}
use Rattle.number_definitions.specs.Readings.{number_of}
use Rattle.clap.specs.Words.{Row, Text, first_of, subcommand_of}
use Rattle.desk_words.specs.Numbers.{number_within}
use Rattle.desk_words.specs.Program.{program}
use Rattle.desk_words.specs.Commands.{Answers, IsInRange, asked_alone, asked_by, command_of, first_of_both, is_help_word, is_version_word, parsed_command, few_enough, is_taken, names_in, once_of, pivots_in, pivots_of, subcommand_asks}
use Rattle.desk_words.specs.declared.command.Command.{Command}
use Rattle.desk_words.specs.declared.command.Command.TheVariants.{Once, Help, Version}
use Rattle.desk_words.specs.declared.command.WordsFault.{WordsFault}

-- a chain that gives something: so did its first part
bound : {A B : Type 0} (o : Option A) (f : A → Option B) (b : B) → option_and_then f o ≡ Some b → (a : A) × (o ≡ Some a) × (f a ≡ Some b)
bound None f b e = absurd (cc)
bound (Some a) f b e = (a, refl, e)

within : (least most n k : ℕ) → number_within least most n ≡ Some k → (least ≤ k) × (k ≤ most)
within least most n k e = go (leb least n) (leb n most) refl refl e
  where
    go : (a b : Bool) → leb least n ≡ a → leb n most ≡ b → cond (a && b) (Some n) None ≡ Some k → (least ≤ k) × (k ≤ most)
    go true true low high e =
        let same : n ≡ k = cc in
        (subst (λ (m : ℕ). least ≤ m) same (leb-true least n low), subst (λ (m : ℕ). m ≤ most) same (leb-true n most high))
    go true false low high e = absurd (cc)
    go false b low high e = absurd (cc)

pivots_within : (word : Option Text) (pivots : ℕ) → pivots_of word ≡ Some pivots → (1 ≤ pivots) × (pivots ≤ 65536)
pivots_within None pivots e =
    let same : 4096 ≡ pivots = cc in
    (omega (arith, same), omega (arith, same))
pivots_within (Some word) pivots e =
    let part = bound (number_of 20 word) (number_within 1 65536) pivots e in
    within 1 65536 part.0 pivots part.2

few_within : (names feeds : List Text) → few_enough names ≡ Some feeds → (1 ≤ length feeds) × (length feeds ≤ 8)
few_within names feeds e = go (leb 1 (length names)) (leb (length names) 8) refl refl e
  where
    go : (a b : Bool) → leb 1 (length names) ≡ a → leb (length names) 8 ≡ b → cond (a && b) (Some names) None ≡ Some feeds → (1 ≤ length feeds) × (length feeds ≤ 8)
    go true true low high e =
        let same : names ≡ feeds = cc in
        (subst (λ (xs : List Text). 1 ≤ length xs) same (leb-true 1 (length names) low), subst (λ (xs : List Text). length xs ≤ 8) same (leb-true (length names) 8 high))
    go true false low high e = absurd (cc)
    go false b low high e = absurd (cc)

once_within : (rows : List Row) (command : Command) → once_of rows ≡ Some command → IsInRange command
once_within rows command e =
    let names = names_in rows in
    let first = bound (pivots_in rows) (λ pivots. option_and_then (λ feeds. Some (Once pivots feeds)) (few_enough names)) command e in
    let second = bound (few_enough names) (λ feeds. Some (Once first.0 feeds)) command first.2 in
    let p = pivots_within (first_of (codes "pivots") rows) first.0 first.1 in
    let f = few_within names second.0 second.1 in
    let same : Once first.0 second.0 ≡ command = cc in
    subst IsInRange same (p.0, p.1, f.0, f.1)

asked_within : (found : Text × List Row) (command : Command) → subcommand_asks found ≡ Some command → IsInRange command
asked_within found command e = go (bytes_eq found.0 (codes "once")) e
  where
    go : (b : Bool) → cond b (once_of found.1) None ≡ Some command → IsInRange command
    go true e = once_within found.1 command e
    go false e = absurd (cc)

parsed_within : (words : List Text) (command : Command) → parsed_command words ≡ Some command → IsInRange command
parsed_within words command e = go (is_taken words) e
  where
    go : (b : Bool) → cond b (option_and_then subcommand_asks (subcommand_of program words)) None ≡ Some command → IsInRange command
    go true e =
        let part = bound (subcommand_of program words) subcommand_asks command e in
        asked_within part.0 command part.2
    go false e = absurd (cc)

word_within : (word : Text) (command : Command) → asked_by word ≡ Some command → IsInRange command
word_within word command e = go (is_help_word word) (is_version_word word) e
  where
    go : (a b : Bool) → cond a (Some Help) (cond b (Some Version) None) ≡ Some command → IsInRange command
    go true b e = let same : Help ≡ command = cc in subst IsInRange same tt
    go false true e = let same : Version ≡ command = cc in subst IsInRange same tt
    go false false e = absurd (cc)

alone_within : (words : List Text) (command : Command) → asked_alone words ≡ Some command → IsInRange command
alone_within [] command e = absurd (cc)
alone_within (word ∷ []) command e = word_within word command e
alone_within (word ∷ other ∷ words) command e = absurd (cc)

command_within : (words : List Text) (command : Command) → command_of words ≡ Some command → IsInRange command
command_within words command e = go (asked_alone words) refl e
  where
    go : (o : Option Command) → asked_alone words ≡ o → first_of_both o (parsed_command words) ≡ Some command → IsInRange command
    go None is e = parsed_within words command e
    go (Some found) is e = alone_within words command (is ∙ e)

-- the answer of a reading
pub answer_within : (words : List Text) (r : Result Command WordsFault) → Answers (command_of words) r → IfOk r IsInRange
answer_within words (Ok command) h = command_within words command h
answer_within words (Err fault) h = tt
