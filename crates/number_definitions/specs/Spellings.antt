-- The one spelling of each number.
use Rattle.std.specs.Prelude.{ℕ, ◌+◌, ◌*◌, ◌/◌, ◌%◌, ℤ, pos, negsuc, List, [], ◌∷◌, ◌++◌, decimal}

-- the last digit of a number
abbrev pub last_digit : ℕ → ℕ
last_digit n = 48 + n % 10

-- odds in thousandths, with exactly three decimals
abbrev pub odds_text : ℕ → List ℕ
odds_text n = decimal (n / 1000) ++ 46 ∷ last_digit (n / 100) ∷ last_digit (n / 10) ∷ last_digit n ∷ []

-- quarters of a goal, with exactly two decimals
abbrev pub quarters_text : ℕ → List ℕ
quarters_text n = decimal (n / 4) ++ 46 ∷ last_digit (25 * (n % 4) / 10) ∷ last_digit (25 * (n % 4)) ∷ []

-- the same, with a minus sign only below zero
abbrev pub handicap_text : ℤ → List ℕ
handicap_text (pos n) = quarters_text n
handicap_text (negsuc n) = 45 ∷ quarters_text (1 + n)

-- a whole number, with a minus sign only below zero
abbrev pub number_text : ℤ → List ℕ
number_text (pos n) = decimal n
number_text (negsuc n) = 45 ∷ decimal (1 + n)
