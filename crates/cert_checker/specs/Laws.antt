use Rattle.std.specs.Prelude.{◌≡◌, ◌⊎◌, List}
use Rattle.scan_types.specs.declared.offer.Offer.{Offer}
use Rattle.finding_definitions.specs.declared.finding.Finding.{Finding}
use Rattle.cert_checker.specs.declared.answer.Answer.{Answer}
use Rattle.cert_checker.specs.Answers.{IsYes, IsAnswer}

-- two answers for one sheet and one finding both say yes, or are equal
abbrev pub OneAnswer : Type 0
OneAnswer =
    (offers : List Offer) (finding : Finding) (a b : Answer) → IsAnswer offers finding a → IsAnswer offers finding b → (IsYes a × IsYes b) ⊎ (a ≡ b)
