use Rattle.std.specs.Prelude.{ℕ, ℤ, pos, negsuc, zero, suc, ◌+◌, ◌*◌, ◌%◌, ◌+ℤ◌, ◌-ℤ◌, neg_ℤ, unsigned_abs, Bool, true, false, ◌==◌, nat_lt, if◌then◌else◌}
use Rattle.scan_types.specs.declared.selection.Selection.{Selection}
use Rattle.scan_types.specs.declared.selection.Selection.TheVariants.{Home, Draw, Away, HandicapHome, HandicapAway, Over, Under}
use Rattle.settlement_definitions.specs.declared.leg_result.LegResult.{LegResult}
use Rattle.settlement_definitions.specs.declared.leg_result.LegResult.TheVariants.{Win, Push, Lose}

-- a quarter line is two bets of half the stake on the two neighbouring half-goal steps; any other
-- line is twice itself
abbrev pub legs_of_line : ℤ → ℤ × ℤ
legs_of_line q = if unsigned_abs q % 2 == 0 then (q, q) else (q -ℤ pos 1, q +ℤ pos 1)

-- the line of a bet in quarters of a goal; a bet on the result has none, and two equal legs
abbrev pub line_of : Selection → ℤ
line_of Home = pos 0
line_of Draw = pos 0
line_of Away = pos 0
line_of (HandicapHome line) = line.quarters
line_of (HandicapAway line) = line.quarters
line_of (Over line) = pos line.quarters
line_of (Under line) = pos line.quarters

-- the two legs of a bet
abbrev pub legs_of : Selection → ℤ × ℤ
legs_of selection = legs_of_line (line_of selection)

-- above zero wins, zero pushes, below zero loses
abbrev pub by_sign : ℤ → LegResult
by_sign (pos zero) = Push
by_sign (pos (suc _)) = Win
by_sign (negsuc _) = Lose

-- a bet on the result wins on its own result and loses otherwise
abbrev pub win_if : Bool → LegResult
win_if true = Win
win_if false = Lose

-- the home side's lead in quarters of a goal, with the line added to its goals
abbrev pub lead : ℤ → ℕ → ℕ → ℤ
lead leg h a = pos (4 * h) -ℤ pos (4 * a) +ℤ leg

-- how far the goals of both sides are above the line, in quarters of a goal
abbrev pub excess : ℤ → ℕ → ℕ → ℤ
excess leg h a = pos (4 * (h + a)) -ℤ leg

-- how a leg goes at a final score
abbrev pub leg_result : Selection → ℤ → ℕ → ℕ → LegResult
leg_result Home leg h a = win_if (nat_lt a h)
leg_result Draw leg h a = win_if (h == a)
leg_result Away leg h a = win_if (nat_lt h a)
leg_result (HandicapHome _) leg h a = by_sign (lead leg h a)
leg_result (HandicapAway _) leg h a = by_sign (neg_ℤ (lead leg h a))
leg_result (Over _) leg h a = by_sign (excess leg h a)
leg_result (Under _) leg h a = by_sign (neg_ℤ (excess leg h a))
