-- `clap` has two definitions of what a command takes: the kinds of fault that a parse has, and the test `takes`. Words without a
-- fault pass the test.
use Rattle.std.proofs.Common.{◌≡◌, ℕ, ◌≤◌, Bool, true, false, not, cond, leb, ltb, ◌&&◌, ◌||◌, List, [], ◌∷◌, length, Option, Some, None, zero, suc, drop, is_some, refl, ap₂, arith}
use Rattle.std.specs.Prelude.{◌==◌, codes, encode_utf8, slice_get}
use Rattle.std.specs.List.{list_all, list_any}
use Rattle.std.specs.Option.{option_map_or}
use Rattle.std.specs.Str.{bytes_eq, chars}
use Rattle.std.proofs.lemmas.Bool.{eqb-true, le-leb, ltb-false}
use Rattle.clap.specs.Lexer.{long_of, short_of}
use Rattle.clap.specs.Facts.{explicit_source, parser_of_value, unwrap_or_range}
use Rattle.clap.specs.Kinds.{Kinds, or_else, range_kinds, value_kinds}
use Rattle.clap.specs.Walk.{Held, Names, Row, Rule, Step, Text, Waiting, Walk, action_of, arg_by_id, arg_by_index, arg_by_long, arg_by_short, attached_value, finished, has_row, is_pending, most_values, next, reacted, settled, subcommand, subcommand_met, takes_several, takes_values, trailing, value, values_or_missing, walk, walk_from, walked, word_met}
use Rattle.clap.specs.Simple.{Shape}
use Rattle.clap.specs.Takes.{action_passes, bundle_passes, bundle_step_passes, count_passes, default_passes, flag_word_passes, flags_pass, is_given, is_valid, level_passes, long_passes, option_passes, other_passes, positional_passes, react_passes, set_passes, settle_passes, short_passes, step_passes, turn_passes, use_passes, value_passes, values_pass, walk_passes, word_passes}
use Rattle.clap.specs.Faults.{action_fault, bundle_fault, bundle_step_fault, check_fault, count_fault, defaults_fault, flag_word_fault, flags_fault, has_free_rules, level_fault, long_fault, option_fault, other_fault, positional_fault, react_fault, set_fault, settle_fault, short_fault, step_fault, turn_fault, use_fault, values_fault, walk_fault, word_fault}
use Rattle.clap.specs.declared.builder.ArgAction.{ArgAction}
use Rattle.clap.specs.declared.builder.ArgAction.TheVariants.{Set, Append, SetTrue, SetFalse, Count, Help, HelpShort, HelpLong, Version}
use Rattle.clap.specs.declared.error.ErrorKind.{ErrorKind}

-- ---- tests

both_nil : (a b : Kinds) → or_else a b ≡ [] → (a ≡ []) × (b ≡ [])
both_nil [] b e = (refl, e)
both_nil (k ∷ ks) b e = absurd (cc)

and_true : (a b : Bool) → a ≡ true → b ≡ true → (a && b) ≡ true
and_true a b p q = ap₂ (λ (x y : Bool). x && y) p q

-- no fault by the first test, or by what is asked else
either_nil : (a : Bool) (faults : Kinds) (b : Bool) → (faults ≡ [] → b ≡ true) → cond a [] faults ≡ [] → (a || b) ≡ true
either_nil true faults b then_b e = refl
either_nil false faults b then_b e = then_b e

passes_nil : (a : Bool) (k : ErrorKind) (ks : Kinds) → cond a [] (k ∷ ks) ≡ [] → a ≡ true
passes_nil true k ks e = refl
passes_nil false k ks e = absurd (cc)

fails_nil : (a : Bool) (k : ErrorKind) (ks rest : Kinds) → cond a (k ∷ ks) rest ≡ [] → (a ≡ false) × (rest ≡ [])
fails_nil true k ks rest e = absurd (cc)
fails_nil false k ks rest e = (refl, e)

not_both : (a b : Bool) → (a && not b) ≡ false → (not a || b) ≡ true
not_both true true e = refl
not_both true false e = absurd (cc)
not_both false b e = refl

if_some : {X : Type 0} (o : Option X) (faults : X → Kinds) (test : X → Bool) → ((x : X) → faults x ≡ [] → test x ≡ true)
    → option_map_or faults o [] ≡ [] → option_map_or test o true ≡ true
if_some None faults test step e = refl
if_some (Some x) faults test step e = step x e

-- ---- one use of an argument

value_ok : (a : Rule) (text : Text) → value_kinds a.ignore_case (parser_of_value a.parser) text ≡ [] → value_passes a text ≡ true
value_ok a text e = passes_nil (value_passes a text) _ [] e

values_ok : (a : Rule) (texts : List Text) → values_fault a texts ≡ [] → values_pass a texts ≡ true
values_ok a [] e = refl
values_ok a (text ∷ texts) e =
    let parts = both_nil (value_kinds a.ignore_case (parser_of_value a.parser) text) (values_fault a texts) e in
    and_true (value_passes a text) (values_pass a texts) (value_ok a text parts.0) (values_ok a texts parts.1)

count_ok : (a : Rule) (texts : List Text) (rows : List Row) → count_fault a texts rows ≡ [] → count_passes a texts rows ≡ true
count_ok a [] rows e = value_ok a _ e
count_ok a (text ∷ texts) rows e = values_ok a (text ∷ texts) e

set_ok : (again : Bool) (a : Rule) (texts : List Text) (rows : List Row) → set_fault again a texts rows ≡ [] → set_passes again a texts rows ≡ true
set_ok again a texts rows e =
    let parts = both_nil _ (values_fault a texts) e in
    let first = fails_nil (has_row a.id rows && not again) _ [] [] parts.0 in
    and_true (not (has_row a.id rows) || again) (values_pass a texts) (not_both (has_row a.id rows) again first.0) (values_ok a texts parts.1)

action_ok : (x : ArgAction) (again : Bool) (a : Rule) (texts : List Text) (rows : List Row) → action_fault x again a texts rows ≡ [] → action_passes x again a texts rows ≡ true
action_ok Set again a texts rows e = set_ok again a texts rows e
action_ok SetTrue again a texts rows e = set_ok again a texts rows e
action_ok SetFalse again a texts rows e = set_ok again a texts rows e
action_ok Append again a texts rows e = values_ok a texts e
action_ok Count again a texts rows e = count_ok a texts rows e
action_ok Help again a texts rows e = absurd (cc)
action_ok HelpShort again a texts rows e = absurd (cc)
action_ok HelpLong again a texts rows e = absurd (cc)
action_ok Version again a texts rows e = absurd (cc)

range_ok : (least most n : ℕ) → range_kinds least most n ≡ [] → (least ≤ n) × (n ≤ most)
range_ok least most n e =
    let first = fails_nil (ltb 0 least && n == 0) _ [] _ e in
    go (least == most) (least == n) (ltb n least) (ltb most n) _ _ _ refl refl refl refl first.1
  where
    go : (same exact low high : Bool) (x y z : ErrorKind) → (least == most) ≡ same → (least == n) ≡ exact → ltb n least ≡ low → ltb most n ≡ high
        → cond same (cond exact [] (x ∷ [])) (cond low (y ∷ []) (cond high (z ∷ []) [])) ≡ [] → (least ≤ n) × (n ≤ most)
    go true true low high x y z s t l h e =
        let one = eqb-true least most s in
        let two = eqb-true least n t in
        (omega (arith, two), omega (arith, one, two))
    go true false low high x y z s t l h e = absurd (cc)
    go false exact true high x y z s t l h e = absurd (cc)
    go false exact false true x y z s t l h e = absurd (cc)
    go false exact false false x y z s t l h e = (ltb-false n least l, ltb-false most n h)

use_ok : (again : Bool) (a : Rule) (texts : List Text) (rows : List Row) → use_fault again a texts rows ≡ [] → use_passes again a texts rows ≡ true
use_ok again a texts rows e =
    let least = (unwrap_or_range a.range).start_inclusive in
    let parts = both_nil (range_kinds least (most_values a) (length texts)) _ e in
    let range = range_ok least (most_values a) (length texts) parts.0 in
    let acts = action_ok (action_of a) again a (values_or_missing a texts) rows parts.1 in
    and_true (leb least (length texts)) _ (le-leb least (length texts) range.0) (and_true (leb (length texts) (most_values a)) _ (le-leb (length texts) (most_values a) range.1) acts)

-- ---- the walk

module _ (c : List Rule) (again : Bool) where
  settle_ok : (h : Held) → settle_fault c again h ≡ [] → settle_passes c again h ≡ true
  settle_ok h e = if_some h.pending (λ p. option_map_or (λ a. use_fault again a p.1 h.rows) (arg_by_id c p.0) []) (λ p. option_map_or (λ a. use_passes again a p.1 h.rows) (arg_by_id c p.0) true)
      (λ p. if_some (arg_by_id c p.0) (λ a. use_fault again a p.1 h.rows) (λ a. use_passes again a p.1 h.rows) (λ a. use_ok again a p.1 h.rows)) e

  react_ok : (a : Rule) (texts : List Text) (h : Held) → react_fault c again a texts h ≡ [] → react_passes c again a texts h ≡ true
  react_ok a texts h e =
      let parts = both_nil (settle_fault c again h) (use_fault again a texts (settled c h).rows) e in
      and_true (settle_passes c again h) (use_passes again a texts (settled c h).rows) (settle_ok h parts.0) (use_ok again a texts (settled c h).rows parts.1)

  option_ok : (a : Rule) (v : Option Text) (h : Held) → option_fault c again a v h ≡ [] → option_passes c again a v h ≡ true
  option_ok a (Some v) h e = react_ok a (v ∷ []) h e
  option_ok a None h e = settle_ok h e

  long_ok : (found : Option Rule) (v : Option Text) (h : Held) → long_fault c again found v h ≡ [] → long_passes c again found v h ≡ true
  long_ok None v h e = absurd (cc)
  long_ok (Some a) v h e = go (takes_values a) (is_some v) _ e
    where
      go : (t s : Bool) (k : ErrorKind) → cond t (option_fault c again a v h) (cond s (k ∷ []) (react_fault c again a [] h)) ≡ []
          → cond t (option_passes c again a v h) (not s && react_passes c again a [] h) ≡ true
      go true s k e = option_ok a v h e
      go false true k e = absurd (cc)
      go false false k e = react_ok a [] h e

  short_ok : (found : Option Rule) (rest : Text) (h : Held) (faults : Held → Kinds) (test : Held → Bool) → ((k : Held) → faults k ≡ [] → test k ≡ true)
      → short_fault c again found rest h faults ≡ [] → short_passes c again found rest h test ≡ true
  short_ok None rest h faults test step e = absurd (cc)
  short_ok (Some a) rest h faults test step e = go (takes_values a) e
    where
      go : (t : Bool) → cond t (option_fault c again a (attached_value rest) h) (or_else (react_fault c again a [] h) (faults (reacted c a [] h))) ≡ []
          → cond t (option_passes c again a (attached_value rest) h) (react_passes c again a [] h && test (reacted c a [] h)) ≡ true
      go true e = option_ok a (attached_value rest) h e
      go false e =
          let parts = both_nil (react_fault c again a [] h) (faults (reacted c a [] h)) e in
          and_true (react_passes c again a [] h) (test (reacted c a [] h)) (react_ok a [] h parts.0) (step (reacted c a [] h) parts.1)

  bundle_step_ok : (first : Option ℕ) (flags : Text) (skip : ℕ) (h : Held) (faults : Text → ℕ → Held → Kinds) (test : Text → ℕ → Held → Bool)
      → ((t : Text) (n : ℕ) (k : Held) → faults t n k ≡ [] → test t n k ≡ true)
      → bundle_step_fault c again first flags skip h faults ≡ [] → bundle_step_passes c again first flags skip h test ≡ true
  bundle_step_ok None flags skip h faults test step e = refl
  bundle_step_ok (Some x) flags zero h faults test step e =
      let rest = drop (length (encode_utf8 x)) flags in
      short_ok (arg_by_short c x) rest h (faults rest 0) (test rest 0) (step rest 0) e
  bundle_step_ok (Some x) flags (suc skip) h faults test step e = step (drop (length (encode_utf8 x)) flags) skip h e

  flags_ok : (k : ℕ) (flags : Text) (skip : ℕ) (h : Held) → flags_fault c again k flags skip h ≡ [] → flags_pass c again k flags skip h ≡ true
  unfolding flags_fault flags_pass
  flags_ok zero flags skip h e = refl
  flags_ok (suc k) flags skip h e = bundle_step_ok (slice_get (chars flags) 0) flags skip h (flags_fault c again k) (flags_pass c again k) (flags_ok k) e

  flag_word_ok : (name : Option (Text × Option Text)) (word : Text) (h : Held) → flag_word_fault c again name word h ≡ [] → flag_word_passes c again name word h ≡ true
  flag_word_ok (Some p) word h e = long_ok (arg_by_long c p.0) p.1 h e
  flag_word_ok None word h e = if_some (short_of word) (λ flags. bundle_fault c again flags h) (λ flags. bundle_passes c again flags h)
      (λ flags. flags_ok (length flags) flags h.skip (record h { skip = 0 })) e

  positional_ok : (a : Rule) (h : Held) → positional_fault c again a h ≡ [] → positional_passes c again a h ≡ true
  positional_ok a h e = either_nil (is_pending a h.pending && takes_several a) (settle_fault c again h) (settle_passes c again h) (settle_ok h) e

module _ (s : Shape) (names : Names) where
  other_ok : (met : Option Text) (word : Text) (h : Held) → other_fault s met word h ≡ [] → other_passes s met word h ≡ true
  other_ok (Some name) word h e = not_both (bytes_eq name (codes "help")) s.disable_help_subcommand
      (fails_nil (bytes_eq name (codes "help") && not s.disable_help_subcommand) _ _ [] e).0
  other_ok None word h e = either_nil (bytes_eq word (45 ∷ 45 ∷ [])) (flag_word_fault s.rules s.args_override_self (long_of word) word h)
      (flag_word_passes s.rules s.args_override_self (long_of word) word h) (flag_word_ok s.rules s.args_override_self (long_of word) word h) e

  word_ok : (is_trailing : Bool) (waiting : Waiting) (word : Text) (h : Held) → word_fault s names is_trailing waiting word h ≡ [] → word_passes s names is_trailing waiting word h ≡ true
  word_ok is_trailing waiting word h e = either_nil is_trailing (other_fault s (subcommand_met names waiting word) word h) (other_passes s (subcommand_met names waiting word) word h)
      (other_ok (subcommand_met names waiting word) word h) e

  stray : (leaf : Bool) (x y z : ErrorKind) → cond leaf (x ∷ []) (y ∷ z ∷ []) ≡ [] → ⊥
  stray true x y z e = cc
  stray false x y z e = cc

  step_ok : (position : ℕ) (h : Held) (step : Step) → step_fault s position h step ≡ [] → step_passes s position h step ≡ true
  step_ok position h (next waiting) e = refl
  step_ok position h (trailing p) e = refl
  step_ok position h (subcommand name) e = refl
  step_ok position h value e = go (arg_by_index s.rules position) e
    where
      go : (o : Option Rule) → option_map_or (λ a. positional_fault s.rules s.args_override_self a h) o (Rattle.clap.specs.Faults.stray_fault s) ≡ []
          → option_map_or (λ a. positional_passes s.rules s.args_override_self a h) o false ≡ true
      go None e = absurd (stray s.is_leaf _ _ _ e)
      go (Some a) e = positional_ok s.rules s.args_override_self a h e

  turn_ok : (w : Walk) (word : Text) → turn_fault s names w word ≡ [] → turn_passes s names w word ≡ true
  turn_ok w word e =
      let met : Held × Step = word_met s.rules names w.is_trailing w.waiting w.position word w.held in
      either_nil (is_some w.stopped) (or_else (word_fault s names w.is_trailing w.waiting word w.held) (step_fault s w.position met.0 met.1))
      (word_passes s names w.is_trailing w.waiting word w.held && step_passes s w.position met.0 met.1)
      (λ f. let parts = both_nil (word_fault s names w.is_trailing w.waiting word w.held) (step_fault s w.position met.0 met.1) f in
      and_true (word_passes s names w.is_trailing w.waiting word w.held) (step_passes s w.position met.0 met.1) (word_ok w.is_trailing w.waiting word w.held parts.0) (step_ok w.position met.0 met.1 parts.1)) e

  walk_ok : (w : Walk) (words : List Text) → walk_fault s names w words ≡ [] → walk_passes s names w words ≡ true
  unfolding walk_fault walk_passes
  walk_ok w [] e = refl
  walk_ok w (word ∷ words) e =
      let parts = both_nil (turn_fault s names w word) (walk_fault s names (walked s.rules names w word) words) e in
      and_true (turn_passes s names w word) (walk_passes s names (walked s.rules names w word) words) (turn_ok w word parts.0) (walk_ok (walked s.rules names w word) words parts.1)

-- ---- after the walk

help_ok : (has asks given : Bool) → (not has && (asks && not given)) ≡ false → (not asks || (has || given)) ≡ true
help_ok true true given e = refl
help_ok true false given e = refl
help_ok false true true e = refl
help_ok false true false e = absurd (cc)
help_ok false false given e = refl

wanted_ok : (has wants : Bool) → (not has && wants) ≡ false → (not wants || has) ≡ true
wanted_ok true true e = refl
wanted_ok true false e = refl
wanted_ok false true e = absurd (cc)
wanted_ok false false e = refl

none_missing : (rules : List Rule) (given : Rule → Bool) → list_any (λ a. a.required && not (given a)) rules ≡ false → list_all (λ a. not a.required || given a) rules ≡ true
none_missing [] given e = refl
none_missing (a ∷ rules) given e = go (a.required && not (given a)) refl (none_missing rules given) e
  where
    go : (b : Bool) → (a.required && not (given a)) ≡ b
        → (list_any (λ x. x.required && not (given x)) rules ≡ false → list_all (λ x. not x.required || given x) rules ≡ true) → (b || list_any (λ x. x.required && not (given x)) rules) ≡ false
        → ((not a.required || given a) && list_all (λ x. not x.required || given x) rules) ≡ true
    go true is rest e = absurd (cc)
    go false is rest e = and_true (not a.required || given a) _ (not_both a.required (given a) is) (rest e)

given_ok : (rules : List Rule) (given : Rule → Bool) (skips : Bool) → (not skips && list_any (λ a. a.required && not (given a)) rules) ≡ false
    → (skips || list_all (λ a. not a.required || given a) rules) ≡ true
given_ok rules given true e = refl
given_ok rules given false e = none_missing rules given e

valid_ok : (s : Shape) (rows : List Row) (has : Bool) → has_free_rules s ≡ true → check_fault s rows has ≡ [] → is_valid s rows has ≡ true
valid_ok s rows has free e =
    let any : Bool = list_any (λ (r : Row). explicit_source r.source) rows in
    let first = fails_nil (not has && (s.arg_required_else_help && not any)) _ [] _ e in
    let second = fails_nil (not has && s.subcommand_required) _ [] _ first.1 in
    let third = fails_nil (not (s.subcommand_negates_reqs && has) && list_any (λ a. a.required && not (is_given a.id rows)) s.rules) _ [] [] second.1 in
    and_true (not s.arg_required_else_help || (has || any)) _ (help_ok has s.arg_required_else_help any first.0)
    (and_true (not s.subcommand_required || has) _ (wanted_ok has s.subcommand_required second.0)
    (and_true (has_free_rules s) _ free (given_ok s.rules (λ a. is_given a.id rows) (s.subcommand_negates_reqs && has) third.0)))

-- one level without a fault passes, if its arguments have no default and no rule on one another, and neither has the level below
pub level_ok : (s : Shape) (names : Names) (h : Held) (words : List Text) (has : Bool) (below : Kinds) → list_all default_passes s.rules ≡ true → has_free_rules s ≡ true
    → level_fault s names h words has below ≡ [] → (below ≡ []) × (level_passes s names h words has ≡ true)
level_ok s names h words has below defaults free e =
    let end : Held = (walk s.rules names h words).held in
    let first = both_nil (walk_fault s names (walk_from h) words) _ e in
    let second = both_nil below _ first.1 in
    let third = both_nil (settle_fault s.rules s.args_override_self end) _ second.1 in
    let fourth = both_nil (defaults_fault (settled s.rules end).rows s.rules) (check_fault s (finished s.rules end) has) third.1 in (
      second.0,
      and_true (walk_passes s names (walk_from h) words) _ (walk_ok s names (walk_from h) words first.0)
          (and_true (settle_passes s.rules s.args_override_self end) _ (settle_ok s.rules s.args_override_self end third.0)
          (and_true (list_all default_passes s.rules) _ defaults (valid_ok s (finished s.rules end) has free fourth.1))),
    )
