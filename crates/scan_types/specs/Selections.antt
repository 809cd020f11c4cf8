use Rattle.std.specs.Prelude.{ℕ, ◌+◌, ◌-◌, pos, ◌+ℤ◌, unsigned_abs}
use Rattle.scan_types.specs.declared.selection.Selection.{Selection}
use Rattle.scan_types.specs.declared.selection.Selection.TheVariants.{Home, Draw, Away, HandicapHome, HandicapAway, Over, Under}

-- the selections in their order: the three results, then the home and the away handicaps, then over
-- and under, each by rising line
abbrev pub selection_number : Selection → ℕ
selection_number Home = 0
selection_number Draw = 1
selection_number Away = 2
selection_number (HandicapHome line) = 3 + unsigned_abs (line.quarters +ℤ pos 20)
selection_number (HandicapAway line) = 44 + unsigned_abs (line.quarters +ℤ pos 20)
selection_number (Over line) = 85 + (line.quarters - 2)
selection_number (Under line) = 114 + (line.quarters - 2)

-- a bet on the result of the match
abbrev pub IsOnResult : Selection → Type 0
IsOnResult Home = Unit {0}
IsOnResult Draw = Unit {0}
IsOnResult Away = Unit {0}
IsOnResult (HandicapHome _) = ⊥
IsOnResult (HandicapAway _) = ⊥
IsOnResult (Over _) = ⊥
IsOnResult (Under _) = ⊥

-- a bet on the total goals
abbrev pub IsOnTotal : Selection → Type 0
IsOnTotal Home = ⊥
IsOnTotal Draw = ⊥
IsOnTotal Away = ⊥
IsOnTotal (HandicapHome _) = ⊥
IsOnTotal (HandicapAway _) = ⊥
IsOnTotal (Over _) = Unit {0}
IsOnTotal (Under _) = Unit {0}
