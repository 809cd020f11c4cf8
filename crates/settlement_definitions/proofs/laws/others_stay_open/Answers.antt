use Rattle.std.proofs.Common.{ℕ, ℤ, ◌≡◌, false, refl}
use Rattle.scan_types.specs.declared.selection.Selection.{Selection}
use Rattle.scan_types.specs.declared.selection.Selection.TheVariants.{Home, Draw, Away, HandicapHome, HandicapAway, Over, Under}
use Rattle.settlement_definitions.specs.Decided.{exceeds_line}
use Rattle.scan_types.specs.Selections.{IsOnTotal}
use Rattle.settlement_definitions.specs.LaterGoals.{undecided_else}
use Rattle.settlement_definitions.proofs.laws.others_stay_open.Goals as goal

untested : (selection : Selection) (leg : ℤ) (h a : ℕ) → (IsOnTotal selection → ⊥) → exceeds_line selection leg h a ≡ false
untested Home leg h a off = refl
untested Draw leg h a off = refl
untested Away leg h a off = refl
untested (HandicapHome _) leg h a off = refl
untested (HandicapAway _) leg h a off = refl
untested (Over _) leg h a off = absurd (off tt)
untested (Under _) leg h a off = absurd (off tt)

pub returns : goal.returns
returns c selection leg h a r off d = undecided_else selection leg h a (untested selection leg h a off) r d
