use Rattle.std.specs.Prelude.{ℕ, ℤ, ◌≡◌, true, false, refl}
use Rattle.std.proofs.Common.{inl, inr}
use Rattle.scan_types.specs.declared.selection.Selection.{Selection}
use Rattle.scan_types.specs.declared.rule.VoidRule.{VoidRule}
use Rattle.scan_types.specs.declared.rule.VoidRule.TheVariants.{Void, Score, Decided}
use Rattle.scan_types.specs.declared.outcome.Outcome.{Outcome}
use Rattle.scan_types.specs.declared.outcome.Outcome.TheVariants.{Full, Abandoned}
use Rattle.settlement_definitions.specs.declared.leg_result.LegResult.{LegResult}
use Rattle.settlement_definitions.specs.declared.leg_result.LegResult.TheVariants.{Push}
use Rattle.settlement_definitions.specs.Legs.{leg_result}
use Rattle.settlement_definitions.specs.Decided.{Decision, exceeds_line}
use Rattle.settlement_definitions.specs.LaterGoals.{decided_above_line, undecided_else}

-- at each score it is known whether later scores agree on the leg
pub decision : (selection : Selection) (leg : ℤ) (h a : ℕ) → Decision selection leg h a
decision selection leg h a =
    elim (exceeds_line selection leg h a) as (λ b. exceeds_line selection leg h a ≡ b → Decision selection leg h a) [
      | true ↦ λ e. inl (leg_result selection leg h a, decided_above_line selection leg h a e)
      | false ↦ λ e. inr (undecided_else selection leg h a e)
    ] refl

-- the result that every later score gives, or a push if later scores differ
abbrev pub decided_result : (selection : Selection) (leg : ℤ) (h a : ℕ) → Decision selection leg h a → LegResult
decided_result selection leg h a (inl decided) = decided.0
decided_result selection leg h a (inr _) = Push

-- how a leg goes if the match is abandoned: `void` gives the stake back, `score` settles on the
-- score at abandonment, and under `decided` what no later score can change stands
abbrev pub leg_at_abandonment : VoidRule → Selection → ℤ → ℕ → ℕ → LegResult
leg_at_abandonment Void selection leg h a = Push
leg_at_abandonment Score selection leg h a = leg_result selection leg h a
leg_at_abandonment Decided selection leg h a = decided_result selection leg h a (decision selection leg h a)

-- how a leg goes at an outcome
abbrev pub leg_at : VoidRule → Selection → ℤ → Outcome → LegResult
leg_at rule selection leg (Full h a) = leg_result selection leg h a
leg_at rule selection leg (Abandoned h a) = leg_at_abandonment rule selection leg h a
