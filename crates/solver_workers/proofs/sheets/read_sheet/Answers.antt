use Rattle.std.proofs.Common.{◌+◌, ◌-◌, ◌≤◌, ◌<◌, List, ◌++◌, length, take, sym, ap, ◌∙◌, subst, arith}
use Rattle.scan_types.specs.declared.offer.Offer.{Offer}
use Rattle.scan_types.specs.Sheets.{IsSheet}
use Rattle.board_definitions.specs.Sheets.{sheet}
use Rattle.turn_lock.specs.Passes.{known}
use Rattle.quote_board.specs.Answers.{IsCopied}
use Rattle.quote_board.specs.Shared.{board_part}
use Rattle.solver_workers.proofs.Prefixes.{front_is_sheet, copied_behind, part_read, last_part}
use Rattle.solver_workers.proofs.Holding.{same_sheet, still_looked, is_sheet}
use Rattle.solver_workers.proofs.sheets.read_sheet.Goals as goal

pub read_part-count-requires-clause-within : goal.read_part-count-requires-clause-within
read_part-count-requires-clause-within g c =
    let rules = (board_part c.args.lock.now).rules in
    let pin = c.args.pin.now in
    let kept = c.loop-offers.invariant in
    let same = same_sheet rules (known c.args.pass.now) (known c.loop-offers.pass).seen pin c.requires.holds kept.holds.later.seen in
    let within : length c.offers.result.now ≤ length (sheet rules (known c.loop-offers.pass).seen pin.version pin.match_name) =
    subst (λ (all : List Offer). length c.offers.result.now ≤ length all) (sym same) (subst (λ (xs : List Offer). length xs ≤ length (sheet rules (known c.args.pass.now).seen pin.version pin.match_name)) (sym c.offers.ensures.value) kept.within) in
    within

pub push_each-requires : goal.push_each-requires
push_each-requires g c =
    let rules = (board_part c.args.lock.now).rules in
    let allows = g.W.Law.allows (board_part c.args.lock.now).law in
    let pin = c.args.pin.now in
    let old = known c.args.pass.now in
    let mid = known c.loop-offers.pass in
    let kept = c.loop-offers.invariant in
    let all = sheet rules old.seen pin.version pin.match_name in
    let turn = c.read_part-count.ensures.turn in
    let right : IsSheet all = is_sheet rules allows old mid _ turn.0 pin c.requires.holds kept.holds turn.1 in
    let offers = c.loop-offers.offers in
    let same = same_sheet rules old mid.seen pin c.requires.holds kept.holds.later.seen in
    let from = subst (λ (xs : List Offer). IsCopied (sheet rules mid.seen pin.version pin.match_name) (length xs) c.loop-offers.part c.read_part-count.new.out c.read_part-count.result) c.offers.ensures.value c.read_part-count.ensures.copied in
    let copied = subst (λ (xs : List Offer). IsCopied xs (length offers) c.loop-offers.part c.read_part-count.new.out c.read_part-count.result) same from in
    let next = ap (λ (xs : List Offer). xs ++ take c.read_part-count.result c.read_part-count.new.out) kept.front ∙ copied_behind all c.loop-offers.part c.read_part-count.new.out (length offers) c.read_part-count.result kept.within copied in
    subst IsSheet (sym next) (front_is_sheet all (length offers + c.read_part-count.result) right)

pub returns-in_err-push_each-clause-holds : goal.returns-in_err-push_each-clause-holds
returns-in_err-push_each-clause-holds g c =
    let allows = g.W.Law.allows (board_part c.args.lock.now).law in
    let turn = c.read_part-count.ensures.turn in
    still_looked (board_part c.args.lock.now).rules allows (known c.args.pass.now) (known c.loop-offers.pass) _ turn.0 c.args.pin.now c.loop-offers.invariant.holds turn.1

pub returns-then-count-lt-MOST_STANDING-clause-holds : goal.returns-then-count-lt-MOST_STANDING-clause-holds
returns-then-count-lt-MOST_STANDING-clause-holds g c =
    let allows = g.W.Law.allows (board_part c.args.lock.now).law in
    let turn = c.read_part-count.ensures.turn in
    still_looked (board_part c.args.lock.now).rules allows (known c.args.pass.now) (known c.loop-offers.pass) _ turn.0 c.args.pin.now c.loop-offers.invariant.holds turn.1

pub returns-then-count-lt-MOST_STANDING-clause-sheet : goal.returns-then-count-lt-MOST_STANDING-clause-sheet
returns-then-count-lt-MOST_STANDING-clause-sheet g c =
    let rules = (board_part c.args.lock.now).rules in
    let pin = c.args.pin.now in
    let old = known c.args.pass.now in
    let mid = known c.loop-offers.pass in
    let kept = c.loop-offers.invariant in
    let all = sheet rules old.seen pin.version pin.match_name in
    let offers = c.loop-offers.offers in
    let count = c.read_part-count.result in
    let same = same_sheet rules old mid.seen pin c.requires.holds kept.holds.later.seen in
    let from = subst (λ (xs : List Offer). IsCopied (sheet rules mid.seen pin.version pin.match_name) (length xs) c.loop-offers.part c.read_part-count.new.out count) c.offers.ensures.value c.read_part-count.ensures.copied in
    let copied = subst (λ (xs : List Offer). IsCopied xs (length offers) c.loop-offers.part c.read_part-count.new.out count) same from in
    let places = kept.places in
    let short : count < length c.loop-offers.part = (let few = c.if-count-lt-MOST_STANDING.true in omega (arith, few, places)) in
    last_part all offers c.push_each.new.sheet c.loop-offers.part c.read_part-count.new.out count kept.front kept.within copied c.in_ok-push_each.ensures short

pub loop-offers-smaller : goal.loop-offers-smaller
loop-offers-smaller g c =
    let rules = (board_part c.args.lock.now).rules in
    let pin = c.args.pin.now in
    let old = known c.args.pass.now in
    let mid = known c.loop-offers.pass in
    let kept = c.loop-offers.invariant in
    let all = sheet rules old.seen pin.version pin.match_name in
    let offers = c.loop-offers.offers in
    let count = c.read_part-count.result in
    let same = same_sheet rules old mid.seen pin c.requires.holds kept.holds.later.seen in
    let from = subst (λ (xs : List Offer). IsCopied (sheet rules mid.seen pin.version pin.match_name) (length xs) c.loop-offers.part c.read_part-count.new.out count) c.offers.ensures.value c.read_part-count.ensures.copied in
    let copied = subst (λ (xs : List Offer). IsCopied xs (length offers) c.loop-offers.part c.read_part-count.new.out count) same from in
    let one = part_read all offers c.push_each.new.sheet c.loop-offers.part c.read_part-count.new.out count kept.front kept.within copied c.in_ok-push_each.ensures in
    let many = c.if-count-lt-MOST_STANDING.false in
    let less : length all - length c.push_each.new.sheet < length all - length offers = omega (arith, many, one.1, one.2) in
    less

pub loop-offers-preserved : goal.loop-offers-preserved
loop-offers-preserved g c =
    let rules = (board_part c.args.lock.now).rules in
    let allows = g.W.Law.allows (board_part c.args.lock.now).law in
    let pin = c.args.pin.now in
    let old = known c.args.pass.now in
    let mid = known c.loop-offers.pass in
    let kept = c.loop-offers.invariant in
    let all = sheet rules old.seen pin.version pin.match_name in
    let offers = c.loop-offers.offers in
    let count = c.read_part-count.result in
    let turn = c.read_part-count.ensures.turn in
    let same = same_sheet rules old mid.seen pin c.requires.holds kept.holds.later.seen in
    let from = subst (λ (xs : List Offer). IsCopied (sheet rules mid.seen pin.version pin.match_name) (length xs) c.loop-offers.part c.read_part-count.new.out count) c.offers.ensures.value c.read_part-count.ensures.copied in
    let copied = subst (λ (xs : List Offer). IsCopied xs (length offers) c.loop-offers.part c.read_part-count.new.out count) same from in
    let one = part_read all offers c.push_each.new.sheet c.loop-offers.part c.read_part-count.new.out count kept.front kept.within copied c.in_ok-push_each.ensures in
    let places = kept.places in
    record {
      of = c.read_part-count.ensures.of;
      holds = still_looked rules allows old mid _ turn.0 pin kept.holds turn.1;
      front = one.0 ∙ ap (λ k. take k all) (sym one.2);
      within = omega (arith, one.1, one.2);
      places = omega (arith, places, c.read_part-count.auto.out);
    }
