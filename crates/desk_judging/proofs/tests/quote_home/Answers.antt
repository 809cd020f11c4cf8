use Rattle.std.proofs.Common.{rules}
use Rattle.scan_types.specs.declared.selection.Selection.TheVariants.{Home}
use Rattle.scan_types.specs.Ranges.{IsLimitRange}
use Rattle.board_definitions.specs.declared.key.Key.{Key}
use Rattle.desk_judging.proofs.FirstQuote.{may_quote_first}
use Rattle.desk_judging.proofs.tests.quote_home.Goals as goal

pub quote-requires : goal.quote-requires
quote-requires c =
    let key : Key = record { feed = 0; match_name = c.args.match_name; selection = Home } in
    let in_range : IsLimitRange 100 = search rules in
    may_quote_first c.args.board.now.fixed.rules c.args.board.now.history key 100 2 c.requires.first c.requires.feed in_range
