use Rattle.std.proofs.Common.{◌≡◌, ◌+◌, ◌≤◌, ◌∷◌, ◌++◌, [], cond, ℕ, Bool, true, false, List, length, sym, ap, ◌∙◌, subst, arith}
use Rattle.std.specs.Prelude.{vec_capacity}
use Rattle.std.specs.Option.{is_some}
use Rattle.std.specs.Str.{bytes_eq}
use Rattle.std.specs.BTreeMap.{btree_map_len}
use Rattle.indexmap.specs.IndexMap.{get as entry_of}
use Rattle.board_definitions.specs.declared.event.Event.TheVariants.{Pinned}
use Rattle.board_definitions.specs.declared.event.Entry.{Entry}
use Rattle.board_definitions.specs.Sheets.{standing_sheet}
use Rattle.quote_board.specs.declared.held.Held.{Held}
use Rattle.quote_board.specs.Kept.{IsSound}
use Rattle.quote_board.proofs.Lists.{offers_are_sheet}
use Rattle.quote_board.proofs.Sound.{sound_pinned}
use Rattle.quote_board.proofs.board.Board.pin_named.Goals as goal

at_most_one : (b : Bool) → cond {A = ℕ} b 0 1 ≤ 1
at_most_one true = omega arith
at_most_one false = omega arith

pub invariant_of-self-2 : goal.invariant_of-self-2
invariant_of-self-2 g c =
    let h = c.self.inside.history.items in
    let x : Held = record { version = c.len-version.result; match_name = c.args.match_name; offers = c.in_ok-offers.offers } in
    let e : Entry = record { caller = c.args.caller; event = Pinned c.args.match_name } in
    let items : c.add.new.history.items ≡ h ++ e ∷ [] = c.add.ensures.items ∙ ap (λ (xs : List Entry). xs ++ e ∷ []) c.reserve.ensures.items in
    let P : List Entry → Type 0 = λ xs. IsSound (g.W.Law.allows c.self.inside.fixed.law) c.self.inside.fixed.rules xs (vec_capacity c.add.new.history)
    c.settle.new.books c.settle.new.waiting c.insert.new.self c.self.inside.open_feeds in
    let at_end : c.len-version.result ≡ length h = omega (arith, c.len-version.ensures, c.self.inside.history.ok) in
    let room : length h + btree_map_len c.insert.new.self + c.self.inside.open_feeds + 1 ≤ vec_capacity c.add.new.history =
    omega (arith, c.in_ok-reserve.ensures.ok, c.len.ensures.len, c.add.ensures.capacity, c.reserve.ensures.len, c.self.inside.history.ok, c.in_ok-insert.ensures.len, at_most_one (is_some c.in_ok-insert.field-0)) in
    let sheet_is : c.in_ok-offers.offers.items ≡ standing_sheet c.self.inside.fixed.rules h c.args.match_name =
    c.in_ok-offers.ensures.offers ∙ offers_are_sheet c.self.inside.fixed.rules h c.args.match_name (entry_of bytes_eq c.self.inside.books c.args.match_name)
    c.in_ok-offers.ensures.ordered (c.self.invariant.agrees.offers c.args.match_name) in
    subst P (sym items)
    (sound_pinned (g.W.Law.allows c.self.inside.fixed.law) c.self.inside.fixed.rules h c.args.caller x
    (vec_capacity c.self.inside.history) (vec_capacity c.add.new.history) c.self.inside.open_feeds c.self.inside.books c.settle.new.books
    c.self.inside.waiting c.settle.new.waiting c.self.inside.pins c.insert.new.self
    (rw (← c.self.view_is) at c.requires) at_end sheet_is room
    c.settle.ensures.offers c.settle.ensures.due c.settle.ensures.waiting c.in_ok-insert.ensures.updates.0 c.self.invariant)

pub returns-clause-legal : goal.returns-clause-legal
returns-clause-legal g c = let sound = invariant_of-self-2 g c in sound.legal
