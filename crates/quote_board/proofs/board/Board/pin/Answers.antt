use Rattle.std.proofs.Common.{◌≡◌, List, sym, ap, subst, refl}
use Rattle.board_definitions.specs.declared.event.Entry.{Entry}
use Rattle.board_definitions.specs.declared.event.Event.TheVariants as event
use Rattle.board_definitions.specs.declared.pin.Pin.{Pin}
use Rattle.board_definitions.specs.Pins.{IsLongestDue}
use Rattle.quote_board.specs.Views.{with_entry}
use Rattle.quote_board.specs.Answers.{IsPick, next_pin}
use Rattle.quote_board.proofs.Sound.{longest, none_due}
use Rattle.quote_board.proofs.Picks.{empty_pick_is}
use Rattle.quote_board.proofs.board.Board.pin.Goals as goal

pub returns-in_ok-pin_named-in-Some-clause-pick : goal.returns-in_ok-pin_named-in-Some-clause-pick
returns-in_ok-pin_named-in-Some-clause-pick g c =
    let due = longest (g.W.Law.allows c.self.inside.fixed.law) c.self.inside.fixed.rules c.self.inside.history.items c.self.inside.books c.self.inside.waiting c.self.inside.pins
    c.in-Some.match_name c.in-Some.ensures c.self.invariant.agrees in
    let histories : c.self.inside.history.items ≡ c.args.self.now.history = ap (λ v. v.history) c.self.view_is in
    let D : List Entry → Type 0 = λ h. IsLongestDue h c.in-Some.match_name in
    let Q : Pin → Type 0 = λ p. IsLongestDue c.args.self.now.history p.match_name × (p ≡ next_pin c.args.self.now.history c.args.caller p.match_name)
    × (c.pin_named.new.self ≡ with_entry c.args.self.now c.args.caller (event.Pinned p.match_name)) in
    subst Q (sym c.in_ok-pin_named-in-Some.ensures.pinned) (subst D histories due, refl, c.in_ok-pin_named-in-Some.ensures.added)

pub returns-in-None-clause-pick : goal.returns-in-None-clause-pick
returns-in-None-clause-pick g c =
    let none = none_due (g.W.Law.allows c.self.inside.fixed.law) c.self.inside.fixed.rules c.self.inside.history.items c.self.inside.books c.self.inside.waiting c.self.inside.pins
    c.in-None.ensures c.self.invariant.agrees in
    subst (λ v. IsPick v c.args.caller v c.empty_pick.result) c.self.view_is
    (empty_pick_is (record { history = c.self.inside.history.items; fixed = c.self.inside.fixed }) c.args.caller c.self.inside.open_feeds c.empty_pick.result none
    c.self.invariant.eight c.self.invariant.open_is c.empty_pick.ensures)
