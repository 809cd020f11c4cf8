use Rattle.std.proofs.Common.{List, length, ap}
use Rattle.scan_types.specs.declared.offer.Offer.{Offer}
use Rattle.board_definitions.specs.Sheets.{sheet}
use Rattle.desk_report.proofs.Copies.{whole_is_sheet, part_is_sheet, front_after, copied_whole}
use Rattle.desk_report.proofs.sheets.newest_sheet.Goals as goal

pub push_all-requires : goal.push_all-requires
push_all-requires g c =
    let board = c.args.board.now in
    let whole : List Offer = sheet board.fixed.rules board.history (length board.history) c.args.match_name.now in
    part_is_sheet whole c.loop-part.copy c.loop-part.part c.newest-count.new.out (length c.offers-in-loop-part.result.now) c.newest-count.result
    (whole_is_sheet board.fixed.rules (g.W.Law.allows board.fixed.law) board.history c.args.match_name.now c.history.ensures.legal)
    c.loop-part.invariant.front c.loop-part.invariant.within (ap length c.offers-in-loop-part.ensures.value) c.newest-count.ensures

pub loop-part-preserved : goal.loop-part-preserved
loop-part-preserved g c =
    let board = c.args.board.now in
    let whole : List Offer = sheet board.fixed.rules board.history (length board.history) c.args.match_name.now in
    front_after whole c.loop-part.copy c.loop-part.part c.newest-count.new.out c.push_all.new.sheet (length c.offers-in-loop-part.result.now) c.newest-count.result
    c.loop-part.invariant (ap length c.offers-in-loop-part.ensures.value) c.newest-count.ensures c.in_ok-push_all.ensures

pub returns : goal.returns
returns g c =
    let board = c.args.board.now in
    let whole : List Offer = sheet board.fixed.rules board.history (length board.history) c.args.match_name.now in
    copied_whole whole c.loop-part.copy c.loop-part.part (whole_is_sheet board.fixed.rules (g.W.Law.allows board.fixed.law) board.history c.args.match_name.now c.history.ensures.legal)
    c.loop-part.invariant (rw (← c.offers.ensures.value) c.loop-part-test.false)
