-- The room that a spelling needs.
use Rattle.std.specs.Prelude.{ℕ, ◌+◌, ◌≤◌, List, length}
use Rattle.odds_fixed.specs.declared.text_buf.TheConstants.{TEXT_BYTES}
use Rattle.odds_fixed.specs.declared.spellings.TheConstants.{NUMBER_BYTES}

-- a text to which a number can be appended
abbrev pub HasRoom : List ℕ → Type 0
HasRoom text = length text + NUMBER_BYTES ≤ TEXT_BYTES
