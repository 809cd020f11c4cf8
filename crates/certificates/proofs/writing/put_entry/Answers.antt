use Rattle.std.proofs.Common.{ℕ, ◌≡◌, List, [], ◌∷◌, ◌++◌, sym, ap, ◌∙◌, decimal}
use Rattle.scan_types.specs.declared.outcome.Outcome.{Outcome}
use Rattle.finding_definitions.specs.Text.{outcome_fields}
use Rattle.text_out.specs.Written.{spaced}
use Rattle.text_out.proofs.Writes.{and_then, cut, same_text, spaced-append, number_shape}
use Rattle.certificates.proofs.writing.put_entry.Goals as goal

shape : (outcome : Outcome) (weight : ℕ) → spaced (outcome_fields outcome) ++ (32 ∷ decimal weight) ≡ spaced (outcome_fields outcome ++ decimal weight ∷ [])
shape outcome weight = ap (λ (r : List ℕ). spaced (outcome_fields outcome) ++ r) (number_shape weight) ∙ sym (spaced-append (outcome_fields outcome) (decimal weight ∷ []))

pub returns-in_err-put_outcome : goal.returns-in_err-put_outcome
returns-in_err-put_outcome g c =
    same_text (cut c.in_err-put_outcome.ensures (32 ∷ decimal c.args.entry.now.1) _ c.from_residual.ensures.0) _ (shape c.args.entry.now.0 c.args.entry.now.1)

pub returns : goal.returns
returns g c = same_text (and_then c.in_ok-put_outcome.ensures c.put_number.ensures) _ (shape c.args.entry.now.0 c.args.entry.now.1)
