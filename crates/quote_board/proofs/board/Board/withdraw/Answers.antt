use Rattle.std.proofs.Common.{ℕ, ◌≡◌, ◌+◌, ◌≤◌, ◌∷◌, ◌++◌, [], List, length, sym, ap, ◌∙◌, subst, arith}
use Rattle.std.specs.Prelude.{vec_capacity, Option}
use Rattle.std.specs.Option.{is_some}
use Rattle.std.specs.BTreeMap.{btree_map_len}
use Rattle.scan_types.specs.declared.offer.Offer.{Offer}
use Rattle.scan_types.specs.Selections.{selection_number}
use Rattle.board_definitions.specs.declared.event.Event.TheVariants.{Withdrawn}
use Rattle.board_definitions.specs.declared.event.Entry.{Entry}
use Rattle.quote_board.specs.Books.{offer_of}
use Rattle.quote_board.specs.Kept.{IsSound}
use Rattle.quote_board.proofs.Stood.{stood}
use Rattle.quote_board.proofs.Sound.{sound_same, sound_withdrawn}
use Rattle.quote_board.proofs.board.Board.withdraw.Goals as goal

pub withdraw_on-requires : goal.withdraw_on-requires
withdraw_on-requires g c =
    let may = rw (← c.self.view_is) at c.requires in
    let key = c.args.key in
    ap (λ (k : ℕ). is_some (offer_of c.self.inside.books key.match_name k c.slot_of.result.number)) c.slot_of.ensures.feed
    ∙ ap (λ (k : ℕ). is_some (offer_of c.self.inside.books key.match_name key.feed k)) c.slot_of.ensures.number
    ∙ ap (λ (o : Option Offer). is_some o) (c.self.invariant.agrees.offers key.match_name key.feed (selection_number key.selection))
    ∙ stood c.self.inside.fixed.rules (g.W.Law.allows c.self.inside.fixed.law) c.self.inside.history.items key.match_name key.feed (selection_number key.selection)
    c.self.invariant.eight c.self.invariant.legal may.stands

pub invariant_of-self-in_err-withdraw_on : goal.invariant_of-self-in_err-withdraw_on
invariant_of-self-in_err-withdraw_on g c =
    let P : List Entry → Type 0 = λ xs. IsSound (g.W.Law.allows c.self.inside.fixed.law) c.self.inside.fixed.rules xs (vec_capacity c.reserve.new.self)
    c.withdraw_on.new.books c.withdraw_on.new.waiting c.self.inside.pins c.self.inside.open_feeds in
    subst P (sym c.reserve.ensures.items)
    (sound_same (g.W.Law.allows c.self.inside.fixed.law) c.self.inside.fixed.rules c.self.inside.history.items (vec_capacity c.self.inside.history) (vec_capacity c.reserve.new.self)
    c.self.inside.open_feeds c.self.inside.books c.withdraw_on.new.books c.self.inside.waiting c.withdraw_on.new.waiting c.self.inside.pins
    c.in_err-withdraw_on.ensures.err_offers c.in_err-withdraw_on.ensures.err_due c.in_err-withdraw_on.ensures.err_waiting c.reserve.ensures.capacity c.self.invariant)

pub invariant_of-self-2 : goal.invariant_of-self-2
invariant_of-self-2 g c =
    let h = c.self.inside.history.items in
    let e : Entry = record { caller = c.args.caller; event = Withdrawn c.args.key c.args.line } in
    let items : c.add.new.history.items ≡ h ++ e ∷ [] = c.add.ensures.items ∙ ap (λ (xs : List Entry). xs ++ e ∷ []) c.reserve.ensures.items in
    let P : List Entry → Type 0 = λ xs. IsSound (g.W.Law.allows c.self.inside.fixed.law) c.self.inside.fixed.rules xs (vec_capacity c.add.new.history)
    c.withdraw_on.new.books c.withdraw_on.new.waiting c.self.inside.pins c.self.inside.open_feeds in
    let at_end : c.len-place.result ≡ length h = omega (arith, c.len-place.ensures, c.self.inside.history.ok) in
    let room : length h + btree_map_len c.self.inside.pins + c.self.inside.open_feeds + 1 ≤ vec_capacity c.add.new.history =
    omega (arith, c.in_ok-reserve.ensures.ok, c.len.ensures.len, c.add.ensures.capacity, c.reserve.ensures.len, c.self.inside.history.ok) in
    subst P (sym items)
    (sound_withdrawn (g.W.Law.allows c.self.inside.fixed.law) c.self.inside.fixed.rules h c.args.caller c.args.key c.args.line
    c.slot_of.result c.len-place.result (vec_capacity c.self.inside.history) (vec_capacity c.add.new.history) c.self.inside.open_feeds
    c.self.inside.books c.withdraw_on.new.books c.self.inside.waiting c.withdraw_on.new.waiting c.self.inside.pins
    (rw (← c.self.view_is) at c.requires) c.slot_of.ensures.feed c.slot_of.ensures.number at_end room
    c.in_ok-withdraw_on.ensures.offers c.in_ok-withdraw_on.ensures.due c.in_ok-withdraw_on.ensures.waiting c.self.invariant)

pub returns-clause-legal : goal.returns-clause-legal
returns-clause-legal g c = let sound = invariant_of-self-2 g c in sound.legal
