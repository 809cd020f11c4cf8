-- Words by tables: each of some values has a word, by which it is written and read.
use Rattle.std.specs.Prelude.{ℕ, ◌≡◌, List, [], ◌∷◌, Option, Some, None, if◌then◌else◌}
use Rattle.std.specs.Str.{bytes_eq}

-- the words of these values, each with what it stands for
abbrev pub table_of : {A : Type 0} → (A → List ℕ) → List A → List (List ℕ × A)
table_of word [] = []
table_of word (value ∷ values) = (word value, value) ∷ table_of word values

-- what a text stands for by a table: the value of the first entry that has this word
abbrev pub value_of : {A : Type 0} → List (List ℕ × A) → List ℕ → Option A
value_of [] text = None
value_of (entry ∷ others) text = if bytes_eq text entry.0 then Some entry.1 else value_of others text

-- the word of the value is read as the value by the table, and is the only text that is
pub record IsOneWord {A : Type 0} (table : List (List ℕ × A)) (word : List ℕ) (value : A) : Type 0 where
  pub is_read : value_of table word ≡ Some value
  pub no_other : (text : List ℕ) → value_of table text ≡ Some value → text ≡ word
