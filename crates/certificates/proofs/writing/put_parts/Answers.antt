use Rattle.std.proofs.Common.{ℕ, ◌≡◌, List, [], ◌∷◌, ◌++◌, length, ap, ◌∙◌, append_assoc, decimal}
use Rattle.std.specs.List.{flat_map}
use Rattle.finding_definitions.specs.Text.{stake_fields}
use Rattle.text_out.specs.Written.{spaced}
use Rattle.text_out.proofs.Writes.{and_then, cut, same_text, number_shape, counted_shape}
use Rattle.certificates.proofs.writing.put_parts.Goals as goal

shape : (d divisor : ℕ) (items parts : List ℕ) → d ≡ divisor → items ≡ parts → ((32 ∷ decimal d) ++ (32 ∷ decimal (length items))) ++ flat_map (λ (item : ℕ). 32 ∷ decimal item) items ≡ spaced (decimal divisor ∷ stake_fields parts)
shape d divisor items parts de e =
    append_assoc (32 ∷ decimal d) (32 ∷ decimal (length items)) (flat_map (λ (item : ℕ). 32 ∷ decimal item) items)
    ∙ ap (λ (n : ℕ). (32 ∷ decimal n) ++ ((32 ∷ decimal (length items)) ++ flat_map (λ (item : ℕ). 32 ∷ decimal item) items)) de
    ∙ ap (λ (xs : List ℕ). (32 ∷ decimal divisor) ++ ((32 ∷ decimal (length xs)) ++ flat_map (λ (item : ℕ). 32 ∷ decimal item) xs)) e
    ∙ ap (λ (r : List ℕ). (32 ∷ decimal divisor) ++ r) (counted_shape (λ (part : ℕ). decimal part ∷ []) parts (λ (item : ℕ). 32 ∷ decimal item) number_shape)

pub returns-in_err-put_pair : goal.returns-in_err-put_pair
returns-in_err-put_pair g c =
    same_text (cut c.in_err-put_pair.ensures (flat_map (λ (item : ℕ). 32 ∷ decimal item) c.items-items.result.now) _ c.from_residual.ensures.0) _ (shape c.divisor.result c.args.parts.now.divisor c.items-items.result.now c.args.parts.now.parts c.divisor.ensures c.items-items.ensures)

pub returns : goal.returns
returns g c =
    same_text (and_then c.in_ok-put_pair.ensures c.put_long_items.ensures) _ (shape c.divisor.result c.args.parts.now.divisor c.items-items.result.now c.args.parts.now.parts c.divisor.ensures c.items-items.ensures)
