use Rattle.std.specs.Prelude.{◌≡◌, ◌⊎◌, ℕ, List}
use Rattle.scan_types.specs.declared.offer.Offer.{Offer}
use Rattle.scan_types.specs.declared.outcome.Outcome.{Outcome}
use Rattle.finding_definitions.specs.Fractions.{Fractions}
use Rattle.best_checker.specs.declared.answer.BestAnswer.{BestAnswer}
use Rattle.best_checker.specs.BestAnswers.{IsYes, IsBestAnswer}

-- two answers for one sheet, stakes and measure both say yes, or are equal
abbrev pub OneBestAnswer : Type 0
OneBestAnswer =
    (offers : List Offer) (stakes : Fractions) (measure : List (Outcome × ℕ)) (a b : BestAnswer) → IsBestAnswer offers stakes measure a → IsBestAnswer offers stakes measure b → (IsYes a × IsYes b) ⊎ (a ≡ b)
