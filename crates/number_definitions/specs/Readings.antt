-- Numbers as a feed writes them: which texts have the form, and the number that each of them writes. Whether that number lies in its
-- range is another question.
use Rattle.std.specs.Prelude.{ℕ, ◌+◌, ◌-◌, ◌*◌, ◌^◌, ℤ, pos, neg_ℤ, Bool, ◌==◌, ◌&&◌, ◌||◌, nat_le, List, [], ◌∷◌, length, Option, Some, None, option_and_then, option_map, codes, if◌then◌else◌}
use Rattle.std.specs.List.{slice_split}
use Rattle.std.specs.Str.{all_ascii_digits, bytes_eq}
use Rattle.std.specs.Str.Parse.{digits_value}

infixl 10 ◌>>=◌
abbrev pub ◌>>=◌ : {A B : Type 0} → Option A → (A → Option B) → Option B
o >>= f = option_and_then f o

-- the number of 1 to so many decimal digits, and none for any other text
abbrev pub number_of : ℕ → List ℕ → Option ℕ
number_of most text =
    if nat_le 1 (length text) && nat_le (length text) most && all_ascii_digits text then Some (digits_value 10 text) else None

abbrev pub is_point : ℕ → Bool
is_point byte = byte == 46

-- the thousandths of what stands before a point, if any, and what stands after it
unfoldable pub thousandths_of_parts : List (List ℕ) → Option ℕ
thousandths_of_parts [] = None
thousandths_of_parts (whole ∷ []) = do
  units ← number_of 4 whole
  Some (1000 * units)
thousandths_of_parts (whole ∷ fraction ∷ []) = do
  units ← number_of 4 whole
  parts ← number_of 3 fraction
  Some (1000 * units + parts * 10 ^ (3 - length fraction))
thousandths_of_parts (whole ∷ fraction ∷ more ∷ others) = None

-- decimal odds, in thousandths: 1 to 4 digits, and then nothing or a point and 1 to 3 digits
abbrev pub thousandths_of : List ℕ → Option ℕ
thousandths_of text = thousandths_of_parts (slice_split is_point text)

-- a stake limit, in minor units: 1 to 9 digits
abbrev pub limit_of : List ℕ → Option ℕ
limit_of text = number_of 9 text

-- the quarters of a fraction of a goal: `0`, `5`, `00`, `25`, `50` or `75`
abbrev pub fraction_of : List ℕ → Option ℕ
fraction_of text =
    if bytes_eq text (codes "0") || bytes_eq text (codes "00") then Some 0
    else (if bytes_eq text (codes "25") then Some 1
    else (if bytes_eq text (codes "5") || bytes_eq text (codes "50") then Some 2
    else (if bytes_eq text (codes "75") then Some 3 else None)))

-- the quarters of what stands before a point, if any, and what stands after it
unfoldable pub quarters_of_parts : List (List ℕ) → Option ℕ
quarters_of_parts [] = None
quarters_of_parts (whole ∷ []) = do
  goals ← number_of 2 whole
  Some (4 * goals)
quarters_of_parts (whole ∷ fraction ∷ []) = do
  goals ← number_of 2 whole
  quarters ← fraction_of fraction
  Some (4 * goals + quarters)
quarters_of_parts (whole ∷ fraction ∷ more ∷ others) = None

-- goals without a sign, in quarters: 1 or 2 digits, and then nothing or a point and a fraction
abbrev pub plain_quarters_of : List ℕ → Option ℕ
plain_quarters_of text = quarters_of_parts (slice_split is_point text)

-- a line, in quarters of a goal: a plus or a minus sign or none, and then goals
unfoldable pub quarters_of : List ℕ → Option ℤ
quarters_of [] = None
quarters_of (sign ∷ goals) =
    if sign == 43 then option_map pos (plain_quarters_of goals)
    else (if sign == 45 then option_map (λ quarters. neg_ℤ (pos quarters)) (plain_quarters_of goals)
    else option_map pos (plain_quarters_of (sign ∷ goals)))
