use Rattle.std.proofs.Common.{◌≡◌, ◌+◌, ◌≤◌, List, ◌++◌, length, take, sym, ap, ◌∙◌, subst, arith}
use Rattle.std.proofs.lemmas.List.{length-take}
use Rattle.scan_types.specs.declared.offer.Offer.{Offer}
use Rattle.scan_types.specs.Sheets.{IsSheet}
use Rattle.board_definitions.specs.Sheets.{sheet}
use Rattle.board_definitions.proofs.Counts.{few_stand}
use Rattle.board_definitions.proofs.Rising.{sheet_is_sheet}
use Rattle.quote_board.specs.Answers.{IsCopied}
use Rattle.desk_judging.proofs.Prefixes.{front_is_sheet, copied_behind}
use Rattle.desk_judging.proofs.sheets.sheet_of.Goals as goal

pub push_each-requires : goal.push_each-requires
push_each-requires c =
    let board = c.args.board.now in
    let pin = c.args.pin.now in
    let all = sheet board.fixed.rules board.history pin.version pin.match_name in
    let is_sheet : IsSheet all = sheet_is_sheet board.fixed.rules (take pin.version board.history) pin.match_name (λ f. few_stand board.fixed.rules _ board.history pin.match_name f c.history-legal.ensures.legal pin.version) in
    let offers = c.loop-part.offers in
    let copied = subst (λ (xs : List Offer). IsCopied all (length xs) c.loop-part.part c.read-count.new.out c.read-count.result) c.offers.ensures.value c.read-count.ensures in
    let next = ap (λ (xs : List Offer). xs ++ take c.read-count.result c.read-count.new.out) c.loop-part.invariant.front ∙ copied_behind all c.loop-part.part c.read-count.new.out (length offers) c.read-count.result c.loop-part.invariant.within copied in
    subst IsSheet (sym next) (front_is_sheet all (length offers + c.read-count.result) is_sheet)

pub loop-part-preserved : goal.loop-part-preserved
loop-part-preserved c =
    let board = c.args.board.now in
    let pin = c.args.pin.now in
    let all = sheet board.fixed.rules board.history pin.version pin.match_name in
    let offers = c.loop-part.offers in
    let count = c.read-count.result in
    let after = c.push_each.new.sheet in
    let copied = subst (λ (xs : List Offer). IsCopied all (length xs) c.loop-part.part c.read-count.new.out count) c.offers.ensures.value c.read-count.ensures in
    let next = ap (λ (xs : List Offer). xs ++ take count c.read-count.new.out) c.loop-part.invariant.front ∙ copied_behind all c.loop-part.part c.read-count.new.out (length offers) count c.loop-part.invariant.within copied in
    let is : after ≡ take (length offers + count) all = c.in_ok-push_each.ensures ∙ next in
    let few : length offers + count ≤ length all = omega (arith, copied.count_is, c.loop-part.invariant.within) in
    let long : length after ≡ length offers + count = (let e = ap length is in omega (arith, e, length-take (length offers + count) all, few)) in
    record {
      front = is ∙ ap (λ k. take k all) (sym long);
      within = omega (arith, long, few);
      places = omega (arith, c.loop-part.invariant.places, c.read-count.auto.out);
    }
