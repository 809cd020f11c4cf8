use Rattle.std.proofs.Common.{ℕ, ◌≡◌, List, ◌∷◌, ◌++◌, length, refl, ap, ◌∙◌, decimal}
use Rattle.std.specs.List.{flat_map}
use Rattle.scan_types.specs.declared.outcome.Outcome.{Outcome}
use Rattle.finding_definitions.specs.Text.{entry_fields, measure_fields}
use Rattle.text_out.specs.Written.{spaced}
use Rattle.text_out.proofs.Writes.{and_then, cut, same_text, counted_shape}
use Rattle.certificates.proofs.writing.put_measure.Goals as goal

shape : (items measure : List (Outcome × ℕ)) → items ≡ measure → (32 ∷ decimal (length items)) ++ flat_map (λ (entry : Outcome × ℕ). spaced (entry_fields entry)) items ≡ spaced (measure_fields measure)
shape items measure e = ap (λ (xs : List (Outcome × ℕ)). (32 ∷ decimal (length xs)) ++ flat_map (λ (entry : Outcome × ℕ). spaced (entry_fields entry)) xs) e ∙ counted_shape entry_fields measure (λ (entry : Outcome × ℕ). spaced (entry_fields entry)) (λ x. refl)

pub returns-in_err-put_number : goal.returns-in_err-put_number
returns-in_err-put_number g c =
    same_text (cut c.in_err-put_number.ensures (flat_map (λ (entry : Outcome × ℕ). spaced (entry_fields entry)) c.items-items.result.now) _ c.from_residual.ensures.0) _ (shape c.items-items.result.now c.args.measure.now c.items-items.ensures)

pub returns : goal.returns
returns g c =
    same_text (and_then c.in_ok-put_number.ensures c.put_entries.ensures) _ (shape c.items-items.result.now c.args.measure.now c.items-items.ensures)
