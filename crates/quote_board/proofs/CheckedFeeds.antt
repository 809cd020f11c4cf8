-- Each feed that a board was made for has a rule.
use Rattle.std.proofs.Common.{ℕ, ◌≡◌, ◌<◌, List, [], ◌∷◌, length, refl, ap, ◌∙◌, true, zero, suc, arith}
use Rattle.std.specs.Prelude.{Option, IsSome, slice_get}
use Rattle.std.specs.Option.{is_some}
use Rattle.scan_types.specs.declared.rule.VoidRule.{VoidRule}
use Rattle.board_definitions.specs.Entries.{rule_of}
use Rattle.quote_board.specs.Answers.{AreRulesOf}

some_within : (xs : List VoidRule) (k : ℕ) → k < length xs → is_some (slice_get xs k) ≡ true
some_within [] k h = absurd (omega (arith, h))
some_within (x ∷ xs) zero h = refl
some_within (x ∷ xs) (suc k) h = some_within xs k (omega (arith, h))

pub rules_there : (given : List VoidRule) (rules : List (Option VoidRule)) (feed : ℕ) → AreRulesOf given rules → feed < length given → IsSome (rule_of rules feed)
rules_there given rules feed are within = ap (λ (o : Option VoidRule). is_some o) (are feed) ∙ some_within given feed within
