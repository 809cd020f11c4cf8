use Rattle.std.proofs.Common.{[], ◌∷◌, length, ◌∙◌}
use Rattle.std.specs.Prelude.{codes, decimal}
use Rattle.bet_definitions.specs.Bets.{rule_text}
use Rattle.report_definitions.specs.Words.{stop_text}
use Rattle.arb_report.proofs.Shapes.{line_shape}
use Rattle.arb_report.proofs.lines.feed_line.Goals as goal

pub returns : goal.returns
returns c =
    let feed = c.args.feed.now in
    c.push_word-4.ensures.value
    ∙ rw (c.push_field-3.ensures.value, c.stop_word.ensures.value, c.push_number-3.ensures.value, c.items.ensures, c.push_word-3.ensures.value, c.push_number-2.ensures.value, c.push_word-2.ensures.value, c.push_field-2.ensures.value, c.rule_word.ensures.value, c.push_field.ensures.value, c.as_bytes.ensures.value, c.push_number.ensures.value, c.push_word.ensures.value, c.new-out.ensures)
    (line_shape (codes "feed") (decimal c.args.number ∷ feed.header.book ∷ rule_text feed.header.rule ∷ codes "lines" ∷ decimal feed.lines ∷ codes "refused" ∷ decimal (length feed.refusals) ∷ stop_text feed.stop ∷ []))
