-- A line of a text, as a constructor answers it.
use Rattle.std.proofs.Common.{◌≡◌, ℕ, List, Option, Some, None, refl, ap, ◌∙◌}
use Rattle.std.specs.Option.{ok_or}
use Rattle.std.specs.Prelude.{ℤ}
use Rattle.number_definitions.specs.Readings.{quarters_of}
use Rattle.number_definitions.specs.Values.{in_range, or_cause}
use Rattle.feed_definitions.specs.declared.cause.Cause.TheVariants.{BadLine, LineRange}

made : {B D : Type 0} (cause : D) (o : Option B) → ok_or o cause ≡ or_cause cause o
made cause None = refl
made cause (Some value) = refl

-- the quarters, and the same number as it was handed on
pub line_read : {Line : Type 0} (text : List ℕ) (quarters handed : ℤ) (o : Option Line) (within : ℤ → Option Line) → Some quarters ≡ quarters_of text → handed ≡ quarters →
    o ≡ within handed → ok_or o LineRange ≡ in_range BadLine LineRange (quarters_of text) within
line_read text quarters handed o within is same line =
    made LineRange o ∙ ap (or_cause LineRange) (line ∙ ap within same) ∙ ap (λ q. in_range BadLine LineRange q within) is
