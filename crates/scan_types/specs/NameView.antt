use Rattle.std.specs.Prelude.{ℕ, ◌≡◌, ◌-◌, List, ◌++◌, length, take, replicate, refl}
use Rattle.scan_types.specs.declared.limits.TheConstants.{MOST_NAME_BYTES}
use Rattle.scan_types.specs.Names.{IsNameText}
use Rattle.scan_types.specs.declared.name.Name.TheInside.{Inside}

-- the bytes of a name
abbrev pub name_bytes : Inside → List ℕ
name_bytes a = take a.len a.bytes

-- the bytes beyond the name are 0
pub record IsPadded (a : Inside) : Type 0 where
  pub text : IsNameText (take a.len a.bytes)
  pub long : length (take a.len a.bytes) ≡ a.len
  pub zeros : take a.len a.bytes ++ replicate (MOST_NAME_BYTES - a.len) 0 ≡ a.bytes

-- the stored form of a text
abbrev pub padded : List ℕ → Inside
padded text = record { bytes = text ++ replicate (MOST_NAME_BYTES - length text) 0; len = length text }

-- a stored name is the stored form of its bytes
pub padded_back : (a : Inside) → IsPadded a → padded (name_bytes a) ≡ a
padded_back a h = rw (h.long, h.zeros) refl
