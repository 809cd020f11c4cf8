-- Words that are numbers.
use Rattle.std.specs.Prelude.{ℕ, Bool, ◌&&◌, nat_le, List, length, Option, Some, None, option_and_then, if◌then◌else◌}
use Rattle.std.specs.Str.{all_ascii_digits}
use Rattle.number_definitions.specs.Readings.{number_of}
use Rattle.desk_words.specs.declared.numbers.TheConstants.{MOST_NUMBER_DIGITS}

-- 1 to so many decimal digits, without a sign; zeros may lead
abbrev pub is_number_word : List ℕ → Bool
is_number_word word = nat_le 1 (length word) && nat_le (length word) MOST_NUMBER_DIGITS && all_ascii_digits word

-- the number lies between these two
abbrev pub number_within : ℕ → ℕ → ℕ → Option ℕ
number_within least most n = if nat_le least n && nat_le n most then Some n else None

-- the number that the word writes, if it is one and lies between these two
abbrev pub number_in : ℕ → ℕ → List ℕ → Option ℕ
number_in least most word = option_and_then (number_within least most) (number_of MOST_NUMBER_DIGITS word)
