use Rattle.std.proofs.Common.{ℕ, List, ◌∷◌, ap, ◌∙◌}
use Rattle.text_out.proofs.Writes.{and_then, same_text}
use Rattle.certificates.proofs.writing.put_number.Goals as goal

pub returns : goal.returns
returns g c = same_text (and_then c.in_ok-gather.ensures c.gather-2.ensures) _ (ap (λ (t : List ℕ). 32 ∷ t) (c.as_bytes.ensures.value ∙ c.format.ensures.text))
