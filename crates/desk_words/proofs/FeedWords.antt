-- What `clap` makes of positional words behind `once`, word by word.
use Rattle.std.proofs.Common.{◌≡◌, ◌∙◌, ℕ, ◌≤◌, Bool, true, false, not, ◌&&◌, cond, List, [], ◌∷◌, ◌++◌, Option, Some, None, refl, sym, ap, ap₂, append_assoc, append-nil, arith, ltb}
use Rattle.std.specs.Prelude.{◌==◌, codes, option_and_then}
use Rattle.std.specs.Option.{option_map_or}
use Rattle.std.specs.Str.{bytes_eq}
use Rattle.std.specs.List.{fold, list_all}
use Rattle.clap.specs.Lexer.{long_of, long_of_rest, short_of, short_of_rest, strip_byte, usize_max}
use Rattle.std.proofs.lemmas.Bool.Decides.{nat_tests}
use Rattle.clap.specs.declared.error.ErrorKind.TheVariants as kind
use Rattle.clap.specs.Walk.{Held, Row, Rule, Text, Waiting, Walk, idle, is_pending, long_or_other, option, plain_word, positional, settled_rows, short_or_plain, subcommand_met, subcommand_or_other, trailing, walked, word_met}
use Rattle.clap.specs.Simple.{Shape, built_leaf, inherited}
use Rattle.clap.specs.Kinds.{Kinds, or_else, range_kinds, values_kinds}
use Rattle.clap.specs.Faults.{bundle_fault, flag_word_fault, other_fault, settle_fault, turn_fault, walk_fault, word_fault}
use Rattle.clap.specs.declared.builder.ArgAction.TheVariants.{Append, Set}
use Rattle.clap.specs.declared.builder.ValueParser.TheVariants as vp
use Rattle.desk_words.specs.Program.{bare_program, feed_words, once_command, pivots_option}
use Rattle.desk_words.specs.WellFormed.{is_positional_word}

-- the arguments of `once` as `clap` fills them in
abbrev pub pivots_filled : Rule
pivots_filled = record pivots_option {
  action = Some Set;
  range = Some (record {
    start_inclusive = 1;
    end_inclusive = 1;
  });
  parser = Some vp.String;
}

abbrev pub feed_filled : Rule
feed_filled = record feed_words {
  action = Some Append;
  index = Some 1;
  parser = Some vp.String;
}

abbrev pub once_rules : List Rule
once_rules = pivots_filled ∷ feed_filled ∷ []

-- `once` as `clap` builds it
abbrev pub once_built : Shape
once_built = built_leaf (inherited bare_program.top once_command)

rules_are : once_built.rules ≡ once_rules
rules_are = refl

-- where the walk stands before the first feed, and behind some feeds
abbrev pub before_feeds : List Row → Option (Text × List Text) → Walk
before_feeds rows pending = record {
  held = record {
    rows = rows;
    pending = pending;
    skip = 0;
  };
  waiting = idle;
  position = 1;
  is_trailing = false;
  stopped = None;
}

abbrev pub in_feeds : List Row → List Text → Walk
in_feeds rows feeds = record {
  held = record {
    rows = rows;
    pending = Some (codes "FEED", feeds);
    skip = 0;
  };
  waiting = positional;
  position = 1;
  is_trailing = false;
  stopped = None;
}

-- a word that is not empty and does not begin with a hyphen is no flag
plain_from : (byte : ℕ) (bytes : List ℕ) → is_positional_word (byte ∷ bytes) ≡ true → (byte == 45) ≡ false
plain_from byte bytes e = go (byte == 45) e
  where
    go : (b : Bool) → not b ≡ true → b ≡ false
    go true e = absurd (cc)
    go false e = refl

module _ (byte : ℕ) (bytes : List ℕ) (plain : (byte == 45) ≡ false) where
  no_hyphen : strip_byte 45 (byte ∷ bytes) ≡ None
  no_hyphen = ap (λ t. cond t (Some bytes) None) plain

  no_long : long_of (byte ∷ bytes) ≡ None
  no_long = ap (λ o. option_and_then long_of_rest (option_and_then (strip_byte 45) o)) no_hyphen

  no_short : short_of (byte ∷ bytes) ≡ None
  no_short = ap (option_and_then short_of_rest) no_hyphen

  no_end : bytes_eq (byte ∷ bytes) (45 ∷ 45 ∷ []) ≡ false
  no_end = ap (λ t. t && bytes_eq bytes (45 ∷ [])) plain

no_subcommand : (waiting : Waiting) (word : Text) → subcommand_met [] waiting word ≡ None
no_subcommand idle word = refl
no_subcommand (option id) word = refl
no_subcommand positional word = refl

pub plain_met : (waiting : Waiting) (position : ℕ) (word : Text) (h : Held) → is_positional_word word ≡ true
    → word_met once_rules [] false waiting position word h ≡ plain_word once_rules waiting word h
plain_met waiting position [] h e = absurd (cc)
plain_met waiting position (byte ∷ bytes) h e =
    let word : Text = byte ∷ bytes in
    let plain = plain_from byte bytes e in
    ap (λ o. subcommand_or_other once_rules o waiting position word h) (no_subcommand waiting word)
    ∙ ap (λ t. cond t (h, trailing position) (long_or_other once_rules waiting word (long_of word) h)) (no_end byte bytes plain)
    ∙ ap (λ o. long_or_other once_rules waiting word o h) (no_long byte bytes plain)
    ∙ ap (λ o. short_or_plain once_rules waiting word o h) (no_short byte bytes plain)

pub plain_no_fault : (waiting : Waiting) (word : Text) (h : Held) → is_positional_word word ≡ true
    → word_fault once_built [] false waiting word h ≡ []
plain_no_fault waiting [] h e = absurd (cc)
plain_no_fault waiting (byte ∷ bytes) h e =
    let word : Text = byte ∷ bytes in
    let plain = plain_from byte bytes e in
    ap (λ o. other_fault once_built o word h) (no_subcommand waiting word)
    ∙ ap (λ t. cond t [] (flag_word_fault once_rules false (long_of word) word h)) (no_end byte bytes plain)
    ∙ ap (λ o. flag_word_fault once_rules false o word h) (no_long byte bytes plain)
    ∙ ap (λ o. option_map_or (λ flags. bundle_fault once_rules false flags h) o []) (no_short byte bytes plain)

-- the first feed
pub first_feed : (rows : List Row) (pending : Option (Text × List Text)) (word : Text) → is_pending feed_filled pending ≡ false → is_positional_word word ≡ true
    → walked once_rules [] (before_feeds rows pending) word ≡ in_feeds (settled_rows once_rules pending rows) (word ∷ [])
unfolding walked
first_feed rows pending word other e =
    let h : Held = (before_feeds rows pending).held in
    rw (plain_met idle 1 word h e, other) refl

pub first_feed_fault : (rows : List Row) (pending : Option (Text × List Text)) (word : Text) → is_pending feed_filled pending ≡ false → is_positional_word word ≡ true
    → settle_fault once_rules false (before_feeds rows pending).held ≡ [] → turn_fault once_built [] (before_feeds rows pending) word ≡ []
first_feed_fault rows pending word other e settles =
    let h : Held = (before_feeds rows pending).held in
    rw (plain_no_fault idle word h e, plain_met idle 1 word h e, other, settles) refl

-- one more feed
pub next_feed : (rows : List Row) (feeds : List Text) (word : Text) → is_positional_word word ≡ true
    → walked once_rules [] (in_feeds rows feeds) word ≡ in_feeds rows (feeds ++ word ∷ [])
unfolding walked
next_feed rows feeds word e =
    let h : Held = (in_feeds rows feeds).held in
    rw (plain_met positional 1 word h e) refl

pub next_feed_fault : (rows : List Row) (feeds : List Text) (word : Text) → is_positional_word word ≡ true → turn_fault once_built [] (in_feeds rows feeds) word ≡ []
next_feed_fault rows feeds word e =
    let h : Held = (in_feeds rows feeds).held in
    rw (plain_no_fault positional word h e, plain_met positional 1 word h e) refl

both : (a b : Bool) → (a && b) ≡ true → (a ≡ true) × (b ≡ true)
both true b h = (refl, h)
both false b h = absurd (cc)

-- all feeds
pub feeds_walk : (rows : List Row) (before feeds : List Text) → list_all is_positional_word feeds ≡ true
    → fold (walked once_rules []) (in_feeds rows before) feeds ≡ in_feeds rows (before ++ feeds)
feeds_walk rows before [] e = ap (in_feeds rows) (sym (append-nil before))
feeds_walk rows before (word ∷ words) e =
    let parts = both (is_positional_word word) (list_all is_positional_word words) e in
    ap (λ (w : Walk). fold (walked once_rules []) w words) (next_feed rows before word parts.0)
    ∙ feeds_walk rows (before ++ word ∷ []) words parts.1 ∙ ap (in_feeds rows) (append_assoc before (word ∷ []) words)

pub feeds_fault : (rows : List Row) (before feeds : List Text) → list_all is_positional_word feeds ≡ true → walk_fault once_built [] (in_feeds rows before) feeds ≡ []
unfolding walk_fault
feeds_fault rows before [] e = refl
feeds_fault rows before (word ∷ words) e =
    let parts = both (is_positional_word word) (list_all is_positional_word words) e in
    ap₂ (λ (a : Kinds) (w : Walk). or_else a (walk_fault once_built [] w words)) (next_feed_fault rows before word parts.0) (next_feed rows before word parts.0)
    ∙ feeds_fault rows (before ++ word ∷ []) words parts.1

-- each text is a value, and so many of them may be given
pub texts_pass : (values : List Text) → values_kinds false vp.String values ≡ []
texts_pass [] = refl
texts_pass (text ∷ texts) = texts_pass texts

pub many_values : (n : ℕ) → 1 ≤ n → n ≤ 8 → range_kinds 1 usize_max n ≡ []
many_values n some few =
    let zero : (n == 0) ≡ false = grind (arith, nat_tests) in
    let low : ltb n 1 ≡ false = grind (arith, nat_tests) in
    let high : ltb usize_max n ≡ false = grind (arith, nat_tests) in
    ap (λ t. cond t (kind.InvalidValue ∷ []) (cond (ltb n 1) (kind.TooFewValues ∷ []) (cond (ltb usize_max n) (kind.TooManyValues ∷ []) []))) zero
    ∙ ap (λ t. cond t (kind.TooFewValues ∷ []) (cond (ltb usize_max n) (kind.TooManyValues ∷ []) [])) low
    ∙ ap (λ t. cond t (kind.TooManyValues ∷ []) []) high
