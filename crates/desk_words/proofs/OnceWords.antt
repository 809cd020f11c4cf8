-- Well-formed words of `once` give the command that they spell.
use Rattle.std.proofs.Common.{◌≡◌, ◌∙◌, ℕ, ◌≤◌, Bool, true, false, cond, ◌&&◌, List, [], ◌∷◌, ◌++◌, length, Option, Some, None, refl, sym, ap, ap₂, inl, inr, arith}
use Rattle.std.specs.Prelude.{codes, is_some, option_and_then}
use Rattle.std.specs.List.{fold, list_all}
use Rattle.clap.specs.Walk.{Row, Text, Walk, finished, is_pending, nothing_held, option, reading_by, settled, settled_rows, walk, walk_from, walked}
use Rattle.clap.specs.Simple.{entered, names_of}
use Rattle.clap.specs.Words.{fault_of, subcommand_of}
use Rattle.clap.specs.Kinds.{Kinds, or_else}
use Rattle.clap.specs.Faults.{check_fault, defaults_fault, entered_fault, level_fault, settle_fault, turn_fault, walk_fault}
use Rattle.clap.specs.declared.parser.matches.ValueSource.TheVariants.{CommandLine}
use Rattle.clap.proofs.FaultLemmas.{stopped_fault}
use Rattle.clap.proofs.WalkLemmas.{walk_stopped}
use Rattle.desk_words.specs.Program.{program}
use Rattle.desk_words.specs.Commands.{asked_alone, command_of, first_of_both, parsed_command, few_enough, once_of, pivots_of, subcommand_asks}
use Rattle.desk_words.specs.WellFormed.{AreOnceWords, AreWordsOf, IsPivotsOption, is_positional_word}
use Rattle.desk_words.proofs.NumberWords.{number_is_positional}
use Rattle.desk_words.specs.declared.command.Command.{Command}
use Rattle.desk_words.specs.declared.command.Command.TheVariants.{Once, Help, Version}
use Rattle.desk_words.proofs.FeedCounts.{few}
use Rattle.desk_words.proofs.TakenWords.{fault_free_taken, whole}
use Rattle.desk_words.proofs.FeedWords.{before_feeds, feed_filled, feeds_fault, feeds_walk, first_feed, first_feed_fault, in_feeds, many_values, once_built, once_rules, pivots_filled, plain_met, plain_no_fault, texts_pass}

-- what `clap` keeps of the option
abbrev pivots_row : Text → Row
pivots_row number = record {
  id = codes "pivots";
  values = number ∷ [];
  count = None;
  source = Some CommandLine;
  reading = reading_by pivots_filled;
}

abbrev rows_with : Option Text → List Row
rows_with None = []
rows_with (Some number) = pivots_row number ∷ []

-- the options of `once` as `clap` walks over them: to where the feeds begin, with the value of `--pivots`
record LeadsToFeeds (options : List Text) (number : Option Text) : Type 0 where
  rows : List Row
  pending : Option (Text × List Text)
  walks : (rest : List Text) → fold (walked once_rules []) (walk_from nothing_held) (options ++ rest) ≡ fold (walked once_rules []) (before_feeds rows pending) rest
  passes : (rest : List Text) → walk_fault once_built [] (walk_from nothing_held) (options ++ rest) ≡ walk_fault once_built [] (before_feeds rows pending) rest
  no_feed : is_pending feed_filled pending ≡ false
  settles : settle_fault once_rules false (before_feeds rows pending).held ≡ []
  keeps : settled_rows once_rules pending rows ≡ rows_with number

left_out : LeadsToFeeds [] None
left_out = record {
  rows = [];
  pending = None;
  walks = λ rest. refl;
  passes = λ rest. refl;
  no_feed = refl;
  settles = refl;
  keeps = refl;
}

-- `--pivots=N`
joined_walk : (number : Text) → walked once_rules [] (walk_from nothing_held) (codes "--pivots=" ++ number) ≡ before_feeds (pivots_row number ∷ []) None
unfolding walked
joined_walk number = refl

joined_fault : (number : Text) → turn_fault once_built [] (walk_from nothing_held) (codes "--pivots=" ++ number) ≡ []
joined_fault number = refl

joined : (number : Text) → LeadsToFeeds ((codes "--pivots=" ++ number) ∷ []) (Some number)
unfolding walk_fault
joined number = record {
  rows = pivots_row number ∷ [];
  pending = None;
  walks = λ rest. ap (λ (w : Walk). fold (walked once_rules []) w rest) (joined_walk number);
  passes = λ rest. ap₂ (λ (a : Kinds) (w : Walk). or_else a (walk_fault once_built [] w rest)) (joined_fault number) (joined_walk number);
  no_feed = refl;
  settles = refl;
  keeps = refl;
}

-- `--pivots N`
abbrev at_value : Walk
at_value = record (before_feeds [] (Some (codes "pivots", []))) { waiting = option (codes "pivots") }

option_walk : walked once_rules [] (walk_from nothing_held) (codes "--pivots") ≡ at_value
unfolding walked
option_walk = refl

option_passes : turn_fault once_built [] (walk_from nothing_held) (codes "--pivots") ≡ []
option_passes = refl

value_walk : (number : Text) → is_positional_word number ≡ true → walked once_rules [] at_value number ≡ before_feeds [] (Some (codes "pivots", number ∷ []))
unfolding walked
value_walk number e = rw (plain_met (option (codes "pivots")) 1 number at_value.held e) refl

value_fault : (number : Text) → is_positional_word number ≡ true → turn_fault once_built [] at_value number ≡ []
value_fault number e = rw (plain_no_fault (option (codes "pivots")) number at_value.held e, plain_met (option (codes "pivots")) 1 number at_value.held e) refl

apart : (number : Text) → is_positional_word number ≡ true → LeadsToFeeds (codes "--pivots" ∷ number ∷ []) (Some number)
unfolding walk_fault
apart number e = record {
  rows = [];
  pending = Some (codes "pivots", number ∷ []);
  walks = λ rest. ap (λ (w : Walk). fold (walked once_rules []) w (number ∷ rest)) option_walk
      ∙ ap (λ (w : Walk). fold (walked once_rules []) w rest) (value_walk number e);
  passes = λ rest. ap₂ (λ (a : Kinds) (w : Walk). or_else a (walk_fault once_built [] w (number ∷ rest))) option_passes option_walk
      ∙ ap₂ (λ (a : Kinds) (w : Walk). or_else a (walk_fault once_built [] w rest)) (value_fault number e) (value_walk number e);
  no_feed = refl;
  settles = refl;
  keeps = refl;
}

-- ---- the words behind `once`

both : (a b : Bool) → (a && b) ≡ true → (a ≡ true) × (b ≡ true)
both true b h = (refl, h)
both false b h = absurd (cc)

module _ (options : List Text) (number : Option Text) (leads : LeadsToFeeds options number) (feed : Text) (feeds : List Text)
    (plain : list_all is_positional_word (feed ∷ feeds) ≡ true) where
  first : is_positional_word feed ≡ true
  first = (both (is_positional_word feed) (list_all is_positional_word feeds) plain).0

  others : list_all is_positional_word feeds ≡ true
  others = (both (is_positional_word feed) (list_all is_positional_word feeds) plain).1

  to_first : walked once_rules [] (before_feeds leads.rows leads.pending) feed ≡ in_feeds (rows_with number) (feed ∷ [])
  to_first = first_feed leads.rows leads.pending feed leads.no_feed first ∙ ap (λ rows. in_feeds rows (feed ∷ [])) leads.keeps

  whole_walk : walk once_rules [] nothing_held (options ++ feed ∷ feeds) ≡ in_feeds (rows_with number) (feed ∷ feeds)
  whole_walk = leads.walks (feed ∷ feeds) ∙ ap (λ (w : Walk). fold (walked once_rules []) w feeds) to_first ∙ feeds_walk (rows_with number) (feed ∷ []) feeds others

  whole_fault : walk_fault once_built [] (walk_from nothing_held) (options ++ feed ∷ feeds) ≡ []
  unfolding walk_fault
  whole_fault = leads.passes (feed ∷ feeds)
      ∙ ap₂ (λ (a : Kinds) (w : Walk). or_else a (walk_fault once_built [] w feeds)) (first_feed_fault leads.rows leads.pending feed leads.no_feed first leads.settles) to_first
      ∙ feeds_fault (rows_with number) (feed ∷ []) feeds others

-- what a level comes to, by the faults of its walk and where that ends
abbrev by_level : Kinds → Walk → Kinds
by_level faults w = or_else faults (or_else [] (or_else (settle_fault once_rules false w.held)
    (or_else (defaults_fault (settled once_rules w.held).rows once_rules) (check_fault once_built (finished once_rules w.held) false))))

level_is : (words : List Text) → level_fault once_built [] nothing_held words false [] ≡ by_level (walk_fault once_built [] (walk_from nothing_held) words) (walk once_rules [] nothing_held words)
level_is words = refl

end_passes : (number : Option Text) (feed : Text) (feeds : List Text) → length (feed ∷ feeds) ≤ 8 → by_level [] (in_feeds (rows_with number) (feed ∷ feeds)) ≡ []
unfolding defaults_fault
end_passes None feed feeds most =
    ap₂ (λ (a b : Kinds). or_else (or_else a b) []) (many_values (length (feed ∷ feeds)) (omega arith) most) (texts_pass (feed ∷ feeds))
end_passes (Some number) feed feeds most =
    ap₂ (λ (a b : Kinds). or_else (or_else a b) []) (many_values (length (feed ∷ feeds)) (omega arith) most) (texts_pass (feed ∷ feeds))

abbrev asks : Option Text → List Text → Option Command
asks number feeds = option_and_then (λ pivots. option_and_then (λ names. Some (Once pivots names)) (few_enough feeds)) (pivots_of number)

end_asks : (number : Option Text) (feed : Text) (feeds : List Text) → once_of (finished once_rules (in_feeds (rows_with number) (feed ∷ feeds)).held) ≡ asks number (feed ∷ feeds)
end_asks None feed feeds = refl
end_asks (Some number) feed feeds = refl

-- ---- the program

abbrev by_program : Kinds → Walk → Kinds
by_program faults w = or_else faults (or_else (entered_fault whole w.stopped) (or_else (settle_fault [] false w.held)
    (or_else (defaults_fault (settled [] w.held).rows []) (check_fault whole.top (finished [] w.held) (is_some (entered whole w.stopped))))))

program_is : (words : List Text) → fault_of program words ≡ by_program (walk_fault whole.top (names_of whole) (walk_from nothing_held) words) (walk [] (names_of whole) nothing_held words)
program_is words = refl

abbrev at_once : List Text → Walk
at_once rest = record (walk_from nothing_held) { stopped = Some (codes "once", rest) }

met_once : walked [] (names_of whole) (walk_from nothing_held) (codes "once") ≡ at_once []
unfolding walked
met_once = refl

once_walk : (rest : List Text) → walk [] (names_of whole) nothing_held (codes "once" ∷ rest) ≡ at_once rest
once_walk rest = ap (λ (w : Walk). fold (walked [] (names_of whole)) w rest) met_once ∙ sym (walk_stopped [] (names_of whole) (walk_from nothing_held) (codes "once") [] rest)

once_fault : (rest : List Text) → walk_fault whole.top (names_of whole) (walk_from nothing_held) (codes "once" ∷ rest) ≡ []
unfolding walk_fault
once_fault rest = ap (λ (w : Walk). walk_fault whole.top (names_of whole) w rest) met_once ∙ stopped_fault whole.top (names_of whole) (walk_from nothing_held) (codes "once", []) rest

program_fault : (rest : List Text) → fault_of program (codes "once" ∷ rest) ≡ or_else (level_fault once_built [] nothing_held rest false []) []
unfolding defaults_fault
program_fault rest = ap₂ by_program (once_fault rest) (once_walk rest)

program_asks : (rest : List Text) → option_and_then subcommand_asks (subcommand_of program (codes "once" ∷ rest)) ≡ once_of (finished once_rules (walk once_rules [] nothing_held rest).held)
program_asks rest = ap (λ (w : Walk). option_and_then subcommand_asks (entered whole w.stopped)) (once_walk rest)

-- ---- together

spelled : (options : List Text) (number : Option Text) (pivots : ℕ) (feed : Text) (feeds : List Text) → LeadsToFeeds options number → pivots_of number ≡ Some pivots
    → list_all is_positional_word (feed ∷ feeds) ≡ true → length (feed ∷ feeds) ≤ 8 → parsed_command (codes "once" ∷ options ++ feed ∷ feeds) ≡ Some (Once pivots (feed ∷ feeds))
spelled options number pivots feed feeds leads value plain most =
    let rest : List Text = options ++ feed ∷ feeds in
    let walks = whole_walk options number leads feed feeds plain in
    let no_fault : fault_of program (codes "once" ∷ rest) ≡ [] =
    program_fault rest ∙ ap (λ (a : Kinds). or_else a []) (ap₂ by_level (whole_fault options number leads feed feeds plain) walks ∙ end_passes number feed feeds most) in
    let asked : option_and_then subcommand_asks (subcommand_of program (codes "once" ∷ rest)) ≡ Some (Once pivots (feed ∷ feeds)) =
    program_asks rest ∙ ap (λ (w : Walk). once_of (finished once_rules w.held)) walks ∙ end_asks number feed feeds
    ∙ ap₂ (λ (p : Option ℕ) (names : Option (List Text)). option_and_then (λ n. option_and_then (λ fs. Some (Once n fs)) names) p) value (few (feed ∷ feeds) (omega arith) most) in
    ap₂ (λ (b : Bool) (o : Option Command). cond b o None) (fault_free_taken (codes "once" ∷ rest) no_fault) asked

parsed_once : (words : List Text) (pivots : ℕ) (feeds : List Text) → AreOnceWords words pivots feeds → parsed_command words ≡ Some (Once pivots feeds)
parsed_once words pivots [] h = absurd (omega (arith, h.some_feeds))
parsed_once words pivots (feed ∷ feeds) h = ap parsed_command h.spelled ∙ go h.option_form
  where
    from : (options : List Text) → h.options ≡ options → parsed_command (codes "once" ∷ options ++ feed ∷ feeds) ≡ Some (Once pivots (feed ∷ feeds))
        → parsed_command (codes "once" ∷ h.options ++ feed ∷ feeds) ≡ Some (Once pivots (feed ∷ feeds))
    from options is e = ap (λ (xs : List Text). parsed_command (codes "once" ∷ xs ++ feed ∷ feeds)) is ∙ e

    go : IsPivotsOption h.options pivots → parsed_command (codes "once" ∷ h.options ++ feed ∷ feeds) ≡ Some (Once pivots (feed ∷ feeds))
    go (inl (none, default)) = from [] none (spelled [] None pivots feed feeds left_out (ap Some (sym default)) h.plain_feeds h.few_feeds)
    go (inr (number, value, inl is)) = from _ is (spelled _ (Some number) pivots feed feeds (joined number) value h.plain_feeds h.few_feeds)
    go (inr (number, value, inr is)) =
        from _ is (spelled _ (Some number) pivots feed feeds (apart number (number_is_positional number 1 65536 pivots value)) value h.plain_feeds h.few_feeds)

-- `once` alone asks for nothing, and with more words it is not alone
not_alone : (rest : List Text) → asked_alone (codes "once" ∷ rest) ≡ None
not_alone [] = refl
not_alone (word ∷ rest) = refl

pub once_words : (words : List Text) (pivots : ℕ) (feeds : List Text) → AreOnceWords words pivots feeds → command_of words ≡ Some (Once pivots feeds)
once_words words pivots feeds h =
    ap (λ o. first_of_both o (parsed_command words)) (ap asked_alone h.spelled ∙ not_alone (h.options ++ feeds)) ∙ parsed_once words pivots feeds h

-- words that spell a command give it
pub spelled_words : (words : List Text) (command : Command) → AreWordsOf words command → command_of words ≡ Some command
spelled_words words (Once pivots feeds) h = once_words words pivots feeds h
spelled_words words Help (inl e) = ap (λ (xs : List Text). first_of_both (asked_alone xs) (parsed_command words)) e
spelled_words words Help (inr e) = ap (λ (xs : List Text). first_of_both (asked_alone xs) (parsed_command words)) e
spelled_words words Version (inl e) = ap (λ (xs : List Text). first_of_both (asked_alone xs) (parsed_command words)) e
spelled_words words Version (inr e) = ap (λ (xs : List Text). first_of_both (asked_alone xs) (parsed_command words)) e
