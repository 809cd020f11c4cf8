use Rattle.std.proofs.Common.{◌∙◌}
use Rattle.arb_report.proofs.Shapes.{offer_shape}
use Rattle.arb_report.proofs.lines.offer_line.Goals as goal

pub returns : goal.returns
returns c =
    c.push_word-4.ensures.value
    ∙ rw (c.push_number-2.ensures.value, c.put_odds.ensures.spelled, c.push_word-3.ensures.value, c.put_selection.ensures.spelled, c.push_word-2.ensures.value, c.push_number.ensures.value, c.push_word.ensures.value, c.new-out.ensures)
    (offer_shape c.args.offer.now)
