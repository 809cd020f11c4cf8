use Rattle.std.proofs.Common.{sym, ◌≡◌, IsTrue, ◌↔◌, ℕ, rules}
use Rattle.std.specs.Prelude.{◌==◌}
use Rattle.judging_definitions.specs.Readings.{HasLevelOne}
use Rattle.coherence_lp.proofs.EndFacts.{end_columns, level_by_sizes}
use Rattle.coherence_lp.proofs.level.has_level_one.Goals as goal

same_number : (a b : ℕ) (P : Type 0) → ((a ≡ b) ↔ P) → IsTrue (a == b) ↔ P
same_number a b P is = ((λ h. is.0 (let e : a ≡ b = search rules in e)), (λ p. let e : a ≡ b = is.1 p in let t : IsTrue (a == b) = search rules in t))

pub column_ratio-level-requires : goal.column_ratio-level-requires
column_ratio-level-requires c = record { end = c.requires; column = end_columns c.args.tableau.now c.requires }

pub returns : goal.returns
returns c =
    let level = c.column_ratio-level.result in
    same_number level.numerator level.denominator (HasLevelOne c.args.tableau.now) (level_by_sizes c.args.tableau.now level.numerator level.denominator (sym c.column_ratio-level.ensures.value))
