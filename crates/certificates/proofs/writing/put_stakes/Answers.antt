use Rattle.std.proofs.Common.{ℕ, ◌≡◌, List, [], ◌∷◌, ◌++◌, length, ap, ◌∙◌, decimal}
use Rattle.std.specs.List.{flat_map}
use Rattle.finding_definitions.specs.Text.{stake_fields}
use Rattle.text_out.specs.Written.{spaced}
use Rattle.text_out.proofs.Writes.{and_then, cut, same_text, number_shape, counted_shape}
use Rattle.certificates.proofs.writing.put_stakes.Goals as goal

shape : (items stakes : List ℕ) → items ≡ stakes → (32 ∷ decimal (length items)) ++ flat_map (λ (item : ℕ). 32 ∷ decimal item) items ≡ spaced (stake_fields stakes)
shape items stakes e = ap (λ (xs : List ℕ). (32 ∷ decimal (length xs)) ++ flat_map (λ (item : ℕ). 32 ∷ decimal item) xs) e ∙ counted_shape (λ (stake : ℕ). decimal stake ∷ []) stakes (λ (item : ℕ). 32 ∷ decimal item) number_shape

pub returns-in_err-put_number : goal.returns-in_err-put_number
returns-in_err-put_number g c =
    same_text (cut c.in_err-put_number.ensures (flat_map (λ (item : ℕ). 32 ∷ decimal item) c.items-items.result.now) _ c.from_residual.ensures.0) _ (shape c.items-items.result.now c.args.stakes.now c.items-items.ensures)

pub returns : goal.returns
returns g c =
    same_text (and_then c.in_ok-put_number.ensures c.put_short_items.ensures) _ (shape c.items-items.result.now c.args.stakes.now c.items-items.ensures)
