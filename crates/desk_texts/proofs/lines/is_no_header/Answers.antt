use Rattle.std.proofs.Common.{ℕ, ◌≡◌, List, ◌∷◌, ◌++◌, sym, ap, ◌∙◌, append_assoc}
use Rattle.std.specs.Prelude.{codes, decimal}
use Rattle.report_definitions.specs.Words.{cause_text}
use Rattle.desk_definitions.specs.Texts.{about_feed}
use Rattle.desk_texts.proofs.lines.is_no_header.Goals as goal

-- a line whose fields were put behind each other, each after a space
shape : (about column cause : List ℕ)
    → (((about ++ codes " header column") ++ 32 ∷ column) ++ 32 ∷ cause) ++ codes "\n"
    ≡ about ++ codes " header column " ++ column ++ codes " " ++ cause ++ codes "\n"
shape about column cause =
    ap (λ (text : List ℕ). (text ++ 32 ∷ cause) ++ codes "\n") (append_assoc about (codes " header column") (32 ∷ column) ∙ sym (append_assoc about (codes " header column ") column))
    ∙ ap (λ (text : List ℕ). text ++ codes "\n") (sym (append_assoc (about ++ codes " header column " ++ column) (codes " ") cause))

pub returns : goal.returns
returns c =
    c.push_word-2.ensures.value
    ∙ rw (c.push_field.ensures.value, c.cause_word.ensures.value, c.push_number.ensures.value, c.push_word.ensures.value, c.about_feed-text.ensures.value)
    (shape (about_feed c.args.feed) (decimal c.args.refusal.now.place.column) (cause_text c.args.refusal.now.cause))
