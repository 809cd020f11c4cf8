use Rattle.std.specs.Prelude.{ℕ, ℤ, pos, ◌≡◌, ◌≤◌, ◌+◌, ◌*◌, ◌⊎◌, Bool, false, int_lt}
use Rattle.scan_types.specs.declared.selection.Selection.{Selection}
use Rattle.scan_types.specs.declared.selection.Selection.TheVariants.{Home, Draw, Away, HandicapHome, HandicapAway, Over, Under}
use Rattle.settlement_definitions.specs.declared.leg_result.LegResult.{LegResult}
use Rattle.settlement_definitions.specs.Legs.{leg_result}

-- whatever goals are still scored, the leg has this result
abbrev pub IsDecided : Selection → ℤ → ℕ → ℕ → LegResult → Type 0
IsDecided selection leg h a r =
    (later_h later_a : ℕ) → h ≤ later_h → a ≤ later_a → leg_result selection leg later_h later_a ≡ r

-- either every later score gives the leg one and the same result, or there is no such result
abbrev pub Decision : Selection → ℤ → ℕ → ℕ → Type 0
Decision selection leg h a =
    ((r : LegResult) × IsDecided selection leg h a r) ⊎ ((r : LegResult) → IsDecided selection leg h a r → ⊥)

-- whether the goals exceed the line of an over or under leg
abbrev pub exceeds_line : Selection → ℤ → ℕ → ℕ → Bool
exceeds_line Home leg h a = false
exceeds_line Draw leg h a = false
exceeds_line Away leg h a = false
exceeds_line (HandicapHome _) leg h a = false
exceeds_line (HandicapAway _) leg h a = false
exceeds_line (Over _) leg h a = int_lt leg (pos (4 * (h + a)))
exceeds_line (Under _) leg h a = int_lt leg (pos (4 * (h + a)))
