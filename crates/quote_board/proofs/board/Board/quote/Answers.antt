use Rattle.std.proofs.Common.{◌≡◌, ◌+◌, ◌≤◌, ◌∷◌, ◌++◌, [], List, length, sym, ap, ◌∙◌, subst, arith}
use Rattle.std.specs.Prelude.{vec_capacity}
use Rattle.std.specs.BTreeMap.{btree_map_len}
use Rattle.board_definitions.specs.declared.event.Event.TheVariants.{Quoted}
use Rattle.board_definitions.specs.declared.event.Entry.{Entry}
use Rattle.quote_board.specs.Kept.{IsSound}
use Rattle.quote_board.proofs.Sound.{fresh, sound_same, sound_quoted}
use Rattle.quote_board.proofs.board.Board.quote.Goals as goal

pub quote_on-requires : goal.quote_on-requires
quote_on-requires g c =
    fresh c.self.inside.fixed.rules c.self.inside.history.items c.self.inside.books c.self.inside.waiting c.self.inside.pins c.self.invariant.agrees
    c.len-place.result (omega (arith, c.len-place.ensures, c.self.inside.history.ok))

pub invariant_of-self-in_err-quote_on : goal.invariant_of-self-in_err-quote_on
invariant_of-self-in_err-quote_on g c =
    let P : List Entry → Type 0 = λ xs. IsSound (g.W.Law.allows c.self.inside.fixed.law) c.self.inside.fixed.rules xs (vec_capacity c.reserve.new.self)
    c.quote_on.new.books c.quote_on.new.waiting c.self.inside.pins c.self.inside.open_feeds in
    subst P (sym c.reserve.ensures.items)
    (sound_same (g.W.Law.allows c.self.inside.fixed.law) c.self.inside.fixed.rules c.self.inside.history.items (vec_capacity c.self.inside.history) (vec_capacity c.reserve.new.self)
    c.self.inside.open_feeds c.self.inside.books c.quote_on.new.books c.self.inside.waiting c.quote_on.new.waiting c.self.inside.pins
    c.in_err-quote_on.ensures.err_offers c.in_err-quote_on.ensures.err_due c.in_err-quote_on.ensures.err_waiting c.reserve.ensures.capacity c.self.invariant)

pub invariant_of-self-2 : goal.invariant_of-self-2
invariant_of-self-2 g c =
    let h = c.self.inside.history.items in
    let e : Entry = record { caller = c.args.caller; event = Quoted c.args.key c.args.odds c.args.limit c.args.line } in
    let items : c.add.new.history.items ≡ h ++ e ∷ [] = c.add.ensures.items ∙ ap (λ (xs : List Entry). xs ++ e ∷ []) c.reserve.ensures.items in
    let P : List Entry → Type 0 = λ xs. IsSound (g.W.Law.allows c.self.inside.fixed.law) c.self.inside.fixed.rules xs (vec_capacity c.add.new.history)
    c.quote_on.new.books c.quote_on.new.waiting c.self.inside.pins c.self.inside.open_feeds in
    let at_end : c.len-place.result ≡ length h = omega (arith, c.len-place.ensures, c.self.inside.history.ok) in
    let room : length h + btree_map_len c.self.inside.pins + c.self.inside.open_feeds + 1 ≤ vec_capacity c.add.new.history =
    omega (arith, c.in_ok-reserve.ensures.ok, c.len.ensures.len, c.add.ensures.capacity, c.reserve.ensures.len, c.self.inside.history.ok) in
    subst P (sym items)
    (sound_quoted (g.W.Law.allows c.self.inside.fixed.law) c.self.inside.fixed.rules h c.args.caller c.args.key c.args.odds c.args.limit c.args.line
    c.offer_for-offer.result c.slot_of.result c.len-place.result (vec_capacity c.self.inside.history) (vec_capacity c.add.new.history) c.self.inside.open_feeds
    c.self.inside.books c.quote_on.new.books c.self.inside.waiting c.quote_on.new.waiting c.self.inside.pins
    (rw (← c.self.view_is) at c.requires) c.offer_for-offer.ensures c.slot_of.ensures.feed c.slot_of.ensures.number at_end room
    c.in_ok-quote_on.ensures.offers c.in_ok-quote_on.ensures.due c.in_ok-quote_on.ensures.waiting c.self.invariant)

pub returns-clause-legal : goal.returns-clause-legal
returns-clause-legal g c = let sound = invariant_of-self-2 g c in sound.legal
