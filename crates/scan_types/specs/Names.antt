use Rattle.std.specs.Prelude.{ℕ, ◌≡◌, ◌≤◌, ◌⊎◌, List, length, All, Bool, nat_le, ◌==◌, ◌&&◌, ◌||◌}
use Rattle.std.specs.List.{list_all}
use Rattle.scan_types.specs.declared.limits.TheConstants.{MOST_NAME_BYTES}

-- an ASCII letter
abbrev pub IsLetter : ℕ → Type 0
IsLetter b = ((65 ≤ b) × (b ≤ 90)) ⊎ ((97 ≤ b) × (b ≤ 122))

-- a decimal digit
abbrev pub IsDigit : ℕ → Type 0
IsDigit b = (48 ≤ b) × (b ≤ 57)

-- `_`, `-` or `.`
abbrev pub IsMark : ℕ → Type 0
IsMark b = (b ≡ 95) ⊎ ((b ≡ 45) ⊎ (b ≡ 46))

-- a letter, a digit, `_`, `-` or `.`
abbrev pub IsNameByte : ℕ → Type 0
IsNameByte b = IsLetter b ⊎ (IsDigit b ⊎ IsMark b)

-- the text of a name: 1 to MOST_NAME_BYTES such bytes
pub record IsNameText (text : List ℕ) : Type 0 where
  pub some : 1 ≤ length text
  pub few : length text ≤ MOST_NAME_BYTES
  pub bytes : All IsNameByte text

-- whether the byte is a letter, a digit, `_`, `-` or `.`
abbrev pub is_name_byte : ℕ → Bool
is_name_byte b =
    ((nat_le 65 b && nat_le b 90) || (nat_le 97 b && nat_le b 122)) || ((nat_le 48 b && nat_le b 57) || (b == 95 || (b == 45 || b == 46)))

-- whether the text is a name
abbrev pub is_name_text : List ℕ → Bool
is_name_text text = nat_le 1 (length text) && (nat_le (length text) MOST_NAME_BYTES && list_all is_name_byte text)
