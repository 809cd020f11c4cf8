use Rattle.std.proofs.Common.{ap, ◌∙◌}
use Rattle.std.specs.Prelude.{option_and_then}
use Rattle.board_definitions.specs.Sheets.{offer_with}
use Rattle.board_definitions.proofs.Placed.{offer_with_back}
use Rattle.quote_board.proofs.board.offer_for.Goals as goal

pub returns : goal.returns
returns c =
    ap (option_and_then (offer_with c.args.key.now.feed c.args.key.now.selection c.args.odds c.args.limit)) c.rule_for-rule.ensures.value ∙ offer_with_back _
