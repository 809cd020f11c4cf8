-- A line as fields, and reading them from left to right with the place of the first fault.
use Rattle.std.specs.Prelude.{ℕ, ◌+◌, Bool, ◌==◌, ◌||◌, List, [], ◌∷◌, length, Result, Ok, Err}
use Rattle.std.specs.List.{slice_split}
use Rattle.feed_definitions.specs.declared.cause.Cause.{Cause}
use Rattle.feed_definitions.specs.declared.cause.Cause.TheVariants.{Missing, Extra}
use Rattle.feed_definitions.specs.declared.cause.Fault.{Fault}

-- a space or a tab
abbrev pub is_separator : ℕ → Bool
is_separator byte = byte == 32 || byte == 9

-- a field of a line: a longest run of bytes that are no separators, and the column of its first byte
pub record Field : Type 0 where
  pub column : ℕ
  pub bytes : List ℕ

-- the fields among the pieces between separators, the first of which begins at this column: those that are not empty
abbrev pub placed : ℕ → List (List ℕ) → List Field
placed column [] = []
placed column ([] ∷ pieces) = placed (column + 1) pieces
placed column ((byte ∷ bytes) ∷ pieces) =
    record { column = column; bytes = byte ∷ bytes } ∷ placed (column + length (byte ∷ bytes) + 1) pieces

-- the fields of a text that begins at this column
abbrev pub fields_from : ℕ → List ℕ → List Field
fields_from column text = placed column (slice_split is_separator text)

abbrev pub fields : List ℕ → List Field
fields text = fields_from 1 text

-- the fields still to be read, and the column behind the last field that was read: 1 if none was
pub record Unread : Type 0 where
  pub after : ℕ
  pub others : List Field

abbrev pub and_then : {A B E : Type 0} → Result A E → (A → Result B E) → Result B E
and_then (Ok value) next = next value
and_then (Err fault) next = Err fault

-- reads some fields as a value, or finds the first fault
abbrev pub Reader : Type 0 → Type 0
Reader A = Unread → Result (A × Unread) Fault

-- one reader after another
infixl 10 ◌>>=◌
abbrev pub ◌>>=◌ : {A B : Type 0} → Reader A → (A → Reader B) → Reader B
first >>= next = λ unread. and_then (first unread) (λ read. next read.0 read.1)

-- reads nothing
abbrev pub give : {A : Type 0} → A → Reader A
give value = λ unread. Ok (value, unread)

-- what a test of a field's bytes says, with the field's column
abbrev pub at_column : {A : Type 0} → ℕ → Result A Cause → Result A Fault
at_column column (Ok value) = Ok value
at_column column (Err cause) = Err (record { column = column; cause = cause })

abbrev pub first_field : {A : Type 0} → (Field → Result A Fault) → ℕ → List Field → Result (A × Unread) Fault
first_field test after [] = Err (record { column = after; cause = Missing })
first_field test after (field ∷ others) =
    and_then (test field) (λ value. Ok (value, record { after = field.column + length field.bytes; others = others }))

-- the next field, by this test; without one a field is missing, one past the last field's last byte
abbrev pub next : {A : Type 0} → (List ℕ → Result A Cause) → Reader A
next test = λ unread. first_field (λ field. at_column field.column (test field.bytes)) unread.after unread.others

-- the same, and the field's column
abbrev pub next_at : {A : Type 0} → (List ℕ → Result A Cause) → Reader (ℕ × A)
next_at test = λ unread.
    first_field (λ field. and_then (at_column field.column (test field.bytes)) (λ value. Ok (field.column, value))) unread.after unread.others

abbrev pub nothing_in : {A : Type 0} → A → List Field → Result A Fault
nothing_in value [] = Ok value
nothing_in value (field ∷ others) = Err (record { column = field.column; cause = Extra })

-- the value, and no field may be left
abbrev pub no_more : {A : Type 0} → A × Unread → Result A Fault
no_more read = nothing_in read.0 read.1.others

-- reads all fields of a text
abbrev pub read_all : {A : Type 0} → Reader A → List ℕ → Result A Fault
read_all form text = and_then (form (record { after = 1; others = fields text })) no_more
