use Rattle.std.proofs.Common.{ℕ, ℤ, ◌≡◌, Bool, true, false, refl, sym, ◌∙◌, inl, inr, arith}
use Rattle.std.specs.Prelude.{if◌then◌else◌}
use Rattle.scan_types.specs.declared.selection.Selection.{Selection}
use Rattle.settlement_definitions.specs.declared.leg_result.LegResult.{LegResult}
use Rattle.settlement_definitions.specs.declared.leg_result.LegResult.TheVariants.{Push}
use Rattle.settlement_definitions.specs.Legs.{leg_result}
use Rattle.settlement_definitions.specs.Decided.{IsDecided, Decision, exceeds_line}
use Rattle.settlement_definitions.specs.LaterGoals.{decided_above_line, undecided_else}
use Rattle.settlement_definitions.specs.Abandonment.{decision, decided_result}

-- what every later score gives stands
pub stands : (selection : Selection) (leg : ℤ) (h a : ℕ) (known : Decision selection leg h a) (r : LegResult) → IsDecided selection leg h a r → decided_result selection leg h a known ≡ r
stands selection leg h a (inl p) r d = sym (p.1 h a (omega arith) (omega arith)) ∙ d h a (omega arith) (omega arith)
stands selection leg h a (inr never) r d = absurd (never r d)

-- what later scores differ on is a push
pub pushes : (selection : Selection) (leg : ℤ) (h a : ℕ) (known : Decision selection leg h a) → ((r : LegResult) → IsDecided selection leg h a r → ⊥) → decided_result selection leg h a known ≡ Push
pushes selection leg h a (inl p) never = absurd (never p.0 p.1)
pushes selection leg h a (inr _) never = refl

-- the same, where the test is known
pub decided_result-at_test : (selection : Selection) (leg : ℤ) (h a : ℕ) (b : Bool) → exceeds_line selection leg h a ≡ b → decided_result selection leg h a (decision selection leg h a) ≡ (if b then leg_result selection leg h a else Push)
decided_result-at_test selection leg h a true e = stands selection leg h a (decision selection leg h a) _ (decided_above_line selection leg h a e)
decided_result-at_test selection leg h a false e = pushes selection leg h a (decision selection leg h a) (undecided_else selection leg h a e)

-- the goals tell whether every later score agrees
pub decided_result-by_goals : (selection : Selection) (leg : ℤ) (h a : ℕ) → decided_result selection leg h a (decision selection leg h a) ≡ (if exceeds_line selection leg h a then leg_result selection leg h a else Push)
decided_result-by_goals selection leg h a = decided_result-at_test selection leg h a (exceeds_line selection leg h a) refl
