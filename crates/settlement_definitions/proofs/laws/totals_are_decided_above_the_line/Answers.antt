use Rattle.std.proofs.Common.{ℕ, ℤ, pos, ◌≡◌, ◌+◌, ◌*◌, ◌<ℤ◌, Bool, true, false, refl, arith}
use Rattle.std.specs.Prelude.{int_lt}
use Rattle.std.proofs.lemmas.Int.{ints}
use Rattle.scan_types.specs.declared.selection.Selection.{Selection}
use Rattle.scan_types.specs.declared.selection.Selection.TheVariants.{Home, Draw, Away, HandicapHome, HandicapAway, Over, Under}
use Rattle.settlement_definitions.specs.declared.leg_result.LegResult.{LegResult}
use Rattle.settlement_definitions.specs.Legs.{leg_result}
use Rattle.settlement_definitions.specs.Decided.{IsDecided, exceeds_line}
use Rattle.scan_types.specs.Selections.{IsOnTotal}
use Rattle.settlement_definitions.specs.LaterGoals.{decided_above_line, undecided_else}
use Rattle.settlement_definitions.proofs.laws.totals_are_decided_above_the_line.Goals as goal

tested : (selection : Selection) (leg : ℤ) (h a : ℕ) → IsOnTotal selection → exceeds_line selection leg h a ≡ int_lt leg (pos (4 * (h + a)))
tested Home leg h a on = absurd on
tested Draw leg h a on = absurd on
tested Away leg h a on = absurd on
tested (HandicapHome _) leg h a on = absurd on
tested (HandicapAway _) leg h a on = absurd on
tested (Over _) leg h a on = refl
tested (Under _) leg h a on = refl

above : (selection : Selection) (leg : ℤ) (h a : ℕ) (r : LegResult) → exceeds_line selection leg h a ≡ int_lt leg (pos (4 * (h + a))) → IsDecided selection leg h a r → (b : Bool) → exceeds_line selection leg h a ≡ b → leg <ℤ pos (4 * (h + a))
above selection leg h a r test d true e = let f : int_lt leg (pos (4 * (h + a))) ≡ true = cc in grind (arith, ints)
above selection leg h a r test d false e = absurd (undecided_else selection leg h a e r d)

pub returns : goal.returns
returns c selection leg h a on = (
  λ p. above selection leg h a p.0 (tested selection leg h a on) p.1 (exceeds_line selection leg h a) refl,
  λ lt.
      let test = tested selection leg h a on in
      let f : int_lt leg (pos (4 * (h + a))) ≡ true = grind (arith, ints) in
      (leg_result selection leg h a, decided_above_line selection leg h a cc),
)
