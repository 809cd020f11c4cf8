-- The first field of a text, and what follows it.
use Rattle.std.proofs.Common.{◌≡◌, ℕ, zero, suc, ◌+◌, ◌<◌, ◌≤◌, Bool, true, false, not, cond, ltb, List, [], ◌∷◌, length, take, drop, get_or, Some, None, refl, sym, ap, ◌∙◌, subst, arith, add-one}
use Rattle.std.proofs.Math.Seq.{drop-cons, drop-length}
use Rattle.std.proofs.lemmas.Bool.{ltb-true, ltb-false}
use Rattle.std.proofs.Math.ListN.{drop_of_length-le}
use Rattle.std.proofs.lemmas.List.{take_all, length-take-le}
use Rattle.std.proofs.lemmas.List.Splits.{slice_split-cons_yes, slice_split_first, slice_split_none}
use Rattle.std.proofs.lemmas.List.Sums.{fails_before_first, passes_at_first}
use Rattle.std.specs.List.{slice_split, position, position_or_len}
use Rattle.odds_fixed.proofs.Splits.{no_first, found}
use Rattle.feed_definitions.specs.Fields.{is_separator, fields_from, placed}

abbrev pub is_other : ℕ → Bool
is_other byte = not (is_separator byte)

turned : (b c : Bool) → not b ≡ c → b ≡ not c
turned true true e = absurd (cc)
turned true false e = refl
turned false true e = refl
turned false false e = absurd (cc)

-- separators ahead
one_ahead : (column byte : ℕ) (bytes : List ℕ) → is_separator byte ≡ true → fields_from column (byte ∷ bytes) ≡ fields_from (column + 1) bytes
one_ahead column byte bytes e = ap (placed column) (slice_split-cons_yes is_separator byte bytes e)

ahead : (i : ℕ) (text : List ℕ) (column : ℕ) → i ≤ length text → ((k : ℕ) → k < i → is_separator (get_or text k 0) ≡ true) →
    fields_from column text ≡ fields_from (column + i) (drop i text)
ahead zero text column within all = let e : column ≡ column + 0 = omega arith in ap (λ n. fields_from n text) e
ahead (suc i) [] column within all = absurd (omega (arith, within))
ahead (suc i) (byte ∷ bytes) column within all =
    let e : (column + 1) + i ≡ column + suc i = omega arith in
    one_ahead column byte bytes (all 0 (omega arith))
    ∙ ahead i bytes (column + 1) (omega (arith, within)) (λ k below. all (suc k) (omega arith))
    ∙ ap (λ n. fields_from n (drop i bytes)) e

separators : (text : List ℕ) (k : ℕ) → k < position_or_len is_other text → is_separator (get_or text k 0) ≡ true
separators text k below = turned (is_separator (get_or text k 0)) false (fails_before_first is_other text k 0 below)

-- no field
pub no_field : (text : List ℕ) (column : ℕ) → position is_other text ≡ None → fields_from column text ≡ []
no_field text column none =
    let all : length text ≤ position_or_len is_other text = ltb-false (position_or_len is_other text) (length text) (no_first is_other text none) in
    ahead (length text) text column (omega arith) (λ k below. separators text k (omega arith))
    ∙ ap (fields_from (column + length text)) (drop-length text)

-- a text that begins with a field
piece_placed : (column : ℕ) (piece : List ℕ) (pieces : List (List ℕ)) → 0 < length piece →
    placed column (piece ∷ pieces) ≡ record { column = column; bytes = piece } ∷ placed (column + length piece + 1) pieces
piece_placed column [] pieces some = absurd (omega (arith, some))
piece_placed column (byte ∷ bytes) pieces some = refl

abbrev first_length : List ℕ → ℕ
first_length text = position_or_len is_separator text

abbrev Begins : ℕ → List ℕ → Type 0
Begins column text =
    fields_from column text ≡ record { column = column; bytes = take (first_length text) text } ∷ fields_from (column + first_length text) (drop (first_length text) text)

before_separator : (text : List ℕ) (column : ℕ) → 0 < first_length text → first_length text < length text → Begins column text
before_separator text column some within =
    let n = first_length text in
    let long : length (take n text) ≡ n = length-take-le n text (omega arith) in
    let rest : drop n text ≡ get_or text n 0 ∷ drop (n + 1) text = rw add-one (drop-cons text n 0 within) in
    let behind : fields_from (column + n) (drop n text) ≡ fields_from (column + n + 1) (drop (n + 1) text) =
    ap (fields_from (column + n)) rest ∙ one_ahead (column + n) (get_or text n 0) (drop (n + 1) text) (passes_at_first is_separator text 0 within) in
    ap (placed column) (slice_split_first is_separator text 0 within)
    ∙ piece_placed column (take n text) (slice_split is_separator (drop (n + 1) text)) (omega (arith, long))
    ∙ ap (λ k. record { column = column; bytes = take n text } ∷ fields_from (column + k + 1) (drop (n + 1) text)) long
    ∙ ap (λ fields. record { column = column; bytes = take n text } ∷ fields) (sym behind)

has_bytes : (text : List ℕ) → 0 < first_length text → 0 < length text
has_bytes [] some = absurd (omega (arith, some))
has_bytes (byte ∷ bytes) some = omega arith

up_to_end : (text : List ℕ) (column : ℕ) → 0 < first_length text → length text ≤ first_length text → Begins column text
up_to_end text column some all =
    let n = first_length text in
    let bytes : text ≡ take n text = sym (take_all n text all) in
    let rest : drop n text ≡ [] = drop_of_length-le text all in
    let none : fields_from (column + n) (drop n text) ≡ [] = ap (fields_from (column + n)) rest in
    ap (placed column) (slice_split_none is_separator text (λ k d within. fails_before_first is_separator text k d (omega arith)))
    ∙ piece_placed column text [] (omega (arith, all, has_bytes text some))
    ∙ ap (λ b. record { column = column; bytes = b } ∷ []) bytes
    ∙ ap (λ fields. record { column = column; bytes = take n text } ∷ fields) (sym none)

begins : (text : List ℕ) (column : ℕ) → 0 < first_length text → Begins column text
begins text column some = elim (ltb (first_length text) (length text)) as (λ b. ltb (first_length text) (length text) ≡ b → Begins column text) [
  | true ↦ λ e. before_separator text column some (ltb-true (first_length text) (length text) e)
  | false ↦ λ e. up_to_end text column some (ltb-false (first_length text) (length text) e)
] refl

-- behind separators
record Start (text : List ℕ) (start : ℕ) : Type 0 where
  within : start < length text
  ahead_of : (column : ℕ) → fields_from column text ≡ fields_from (column + start) (drop start text)
  other : is_separator (get_or text start 0) ≡ false

start_of : (text : List ℕ) (start : ℕ) → position is_other text ≡ Some start → Start text start
start_of text start is =
    let f = found is_other text start is in
    let passes : is_other (get_or text start 0) ≡ true =
    ap (λ k. is_other (get_or text k 0)) (sym f.is) ∙ passes_at_first is_other text 0 (omega (arith, f.is, f.within)) in
    record {
      within = f.within;
      ahead_of = λ column. ahead start text column (omega (arith, f.within)) (λ k below. separators text k (omega (arith, f.is)));
      other = turned (is_separator (get_or text start 0)) true passes;
    }

not_empty : (byte : ℕ) (bytes : List ℕ) → is_separator byte ≡ false → 0 < first_length (byte ∷ bytes)
not_empty byte bytes e = let P : Bool → Type 0 = λ b. 0 < cond (not b) (1 + first_length bytes) 0 in subst P (sym e) (omega arith)

pub next_field : (text : List ℕ) (column start : ℕ) → position is_other text ≡ Some start →
    fields_from column text ≡ record { column = column + start; bytes = take (first_length (drop start text)) (drop start text) }
    ∷ fields_from (column + start + first_length (drop start text)) (drop (first_length (drop start text)) (drop start text))
next_field text column start is =
    let s = start_of text start is in
    let rest : drop start text ≡ get_or text start 0 ∷ drop (suc start) text = drop-cons text start 0 s.within in
    let some : 0 < first_length (drop start text) = let P : List ℕ → Type 0 = λ t. 0 < first_length t in
    subst P (sym rest) (not_empty (get_or text start 0) (drop (suc start) text) s.other) in
    s.ahead_of column ∙ begins (drop start text) (column + start) some

-- the first byte of the field
pub first_of_field : (text : List ℕ) (start : ℕ) → position is_other text ≡ Some start →
    get_or (take (first_length (drop start text)) (drop start text)) 0 0 ≡ get_or text start 0
first_of_field text start is =
    let s = start_of text start is in
    let rest : drop start text ≡ get_or text start 0 ∷ drop (suc start) text = drop-cons text start 0 s.within in
    let P : List ℕ → Type 0 = λ t. get_or (take (first_length t) t) 0 0 ≡ get_or text start 0 in
    subst P (sym rest) (first_of (get_or text start 0) (drop (suc start) text) (not_empty (get_or text start 0) (drop (suc start) text) s.other))
  where
    first_of : (byte : ℕ) (bytes : List ℕ) → 0 < first_length (byte ∷ bytes) → get_or (take (first_length (byte ∷ bytes)) (byte ∷ bytes)) 0 0 ≡ byte
    first_of byte bytes some = taken (first_length (byte ∷ bytes)) some
      where
        taken : (n : ℕ) → 0 < n → get_or (take n (byte ∷ bytes)) 0 0 ≡ byte
        taken zero none = absurd (omega (arith, none))
        taken (suc n) some = refl
