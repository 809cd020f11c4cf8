use Rattle.std.proofs.Common.{ℕ, Option, Ok, sym, ap, ◌∙◌}
use Rattle.feed_definitions.specs.Forms.{is_text_byte, ascii_or}
use Rattle.feed_fields.proofs.Text.{no_other}
use Rattle.feed_fields.proofs.line.check_bytes.Goals as goal

pub returns-then-is_text : goal.returns-then-is_text
returns-then-is_text c =
    sym (ap (λ (other : Option ℕ). ascii_or other (Ok tt)) (no_other is_text_byte c.args.text.now (sym c.is_text.ensures ∙ c.if-is_text.true)))
