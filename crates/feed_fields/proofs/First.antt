-- What the next field of a text is, at the fields that are still to be read.
use Rattle.std.proofs.Common.{◌≡◌, ℕ, ◌+◌, ◌≤◌, true, List, length, take, drop, get_or, eqb, not, Some, None, Result, Ok, Err, sym, ap, ◌∙◌, arith}
use Rattle.std.specs.List.{position, position_or_len}
use Rattle.feed_definitions.specs.declared.cause.Fault.{Fault}
use Rattle.feed_definitions.specs.declared.cause.Cause.TheVariants.{Missing, Extra}
use Rattle.feed_definitions.specs.Fields.{is_separator, Field, Unread, fields_from, first_field, nothing_in}
use Rattle.feed_definitions.specs.Forms.{is_skipped}
use Rattle.odds_fixed.proofs.Splits.{no_first, found}
use Rattle.std.proofs.lemmas.Bool.{ltb-false}
use Rattle.std.proofs.lemmas.List.{length-take-le}
use Rattle.std.proofs.lemmas.List.Sums.{prefix_len-le-length}
use Rattle.feed_fields.proofs.FieldParts.{is_other, no_field, next_field, first_of_field}

pub nothing_next : (text : List ℕ) (column : ℕ) → position is_other text ≡ None →
    Err (record { column = column; cause = Missing }) ≡ first_field {A = Field} Ok column (fields_from column text)
nothing_next text column none = sym (ap (first_field {A = Field} Ok column) (no_field text column none))

-- no field may be left
abbrev pub none_left : List Field → Result (Unit {0}) Fault
none_left others = nothing_in {A = Unit {0}} tt others

pub nothing_left : (text : List ℕ) (column : ℕ) → position is_other text ≡ None → Ok tt ≡ none_left (fields_from column text)
nothing_left text column none = sym (ap none_left (no_field text column none))

pub one_left : (text : List ℕ) (column start : ℕ) → position is_other text ≡ Some start →
    Err (record { column = column + start; cause = Extra }) ≡ none_left (fields_from column text)
one_left text column start is = sym (ap none_left (next_field text column start is))

pub nothing_skipped : (text : List ℕ) (column : ℕ) → position is_other text ≡ None → true ≡ is_skipped (fields_from column text)
nothing_skipped text column none = sym (ap is_skipped (no_field text column none))

pub first_byte : (text : List ℕ) (column start : ℕ) → position is_other text ≡ Some start → eqb (get_or text start 0) 35 ≡ is_skipped (fields_from column text)
first_byte text column start is = sym (ap is_skipped (next_field text column start is) ∙ ap (λ byte. eqb byte 35) (first_of_field text start is))

-- the first field of a text that begins with one, and what follows it
abbrev pub next_of : ℕ → List ℕ → Field × Unread
next_of column rest = (
  record { column = column; bytes = take (position_or_len is_separator rest) rest },
  record {
    after = column + length (take (position_or_len is_separator rest) rest);
    others = fields_from (column + length (take (position_or_len is_separator rest) rest)) (drop (position_or_len is_separator rest) rest);
  },
)

one_next : (text : List ℕ) (column start : ℕ) → position is_other text ≡ Some start →
    Ok (next_of (column + start) (drop start text)) ≡ first_field {A = Field} Ok column (fields_from column text)
one_next text column start is =
    let rest = drop start text in
    let n = position_or_len is_separator rest in
    let long : length (take n rest) ≡ n = length-take-le n rest (prefix_len-le-length (λ byte. not (is_separator byte)) rest) in
    let F : ℕ → Field × Unread = λ k. (record { column = column + start; bytes = take n rest }, record { after = column + start + length (take n rest); others = fields_from (column + start + k) (drop n rest) }) in
    ap (λ k. Ok (F k)) long ∙ sym (ap (first_field {A = Field} Ok column) (next_field text column start is))

-- the same, of the parts as they were cut
pub parts_next : (text rest bytes behind : List ℕ) (column start n : ℕ) → position is_other text ≡ Some start → rest ≡ drop start text →
    n ≡ position_or_len is_separator rest → bytes ≡ take n rest → behind ≡ drop n rest →
    Ok (record { column = column + start; bytes = bytes }, record { after = column + start + length bytes; others = fields_from (column + start + length bytes) behind })
    ≡ first_field {A = Field} Ok column (fields_from column text)
parts_next text rest bytes behind column start n is rest_is n_is bytes_is behind_is =
    let F : List ℕ → List ℕ → Field × Unread = λ b d. (record { column = column + start; bytes = b }, record { after = column + start + length b; others = fields_from (column + start + length b) d }) in
    let G : ℕ → List ℕ → Field × Unread = λ m t. F (take m t) (drop m t) in
    ap (λ b. Ok (F b behind)) bytes_is
    ∙ ap (λ d. Ok (F (take n rest) d)) behind_is
    ∙ ap (λ m. Ok (G m rest)) n_is
    ∙ ap (λ t. Ok (G (position_or_len is_separator t) t)) rest_is
    ∙ one_next text column start is

pub length_none : (text : List ℕ) → position is_separator text ≡ None → length text ≡ position_or_len is_separator text
length_none text none =
    let all : length text ≤ position_or_len is_separator text = ltb-false (position_or_len is_separator text) (length text) (no_first is_separator text none) in
    omega (arith, all, prefix_len-le-length (λ byte. not (is_separator byte)) text)

pub length_within : (text : List ℕ) (index : ℕ) → position is_separator text ≡ Some index → index ≤ length text
length_within text index is = let f = found is_separator text index is in omega (arith, f.within)

pub length_some : (text : List ℕ) (index : ℕ) → position is_separator text ≡ Some index → index ≡ position_or_len is_separator text
length_some text index is = sym (found is_separator text index is).is
