use Rattle.std.proofs.Common.{◌≡◌, ◌+◌, ◌≤◌, cond, ℕ, Bool, List, length, sym, ap, ◌∙◌, subst, arith}
use Rattle.std.specs.Prelude.{vec_capacity, Option}
use Rattle.std.specs.Option.{is_some}
use Rattle.std.specs.BTreeMap.{btree_map_len}
use Rattle.board_definitions.specs.declared.event.Event.TheVariants.{Released}
use Rattle.board_definitions.specs.declared.event.Entry.{Entry}
use Rattle.quote_board.specs.declared.held.Held.{Held}
use Rattle.quote_board.specs.Kept.{IsSound}
use Rattle.quote_board.proofs.Sound.{pin_is_held, sound_released}
use Rattle.quote_board.proofs.board.Board.release.Goals as goal

pub invariant_of-self : goal.invariant_of-self
invariant_of-self g c =
    let h = c.self.inside.history.items in
    let e : Entry = record { caller = c.args.pin.caller; event = Released c.args.pin.version } in
    let P : List Entry → Type 0 = λ xs. IsSound (g.W.Law.allows c.self.inside.fixed.law) c.self.inside.fixed.rules xs (vec_capacity c.add.new.history)
    c.self.inside.books c.self.inside.waiting c.remove.new.self c.self.inside.open_feeds in
    let there = ap (λ (o : Option Held). is_some o) c.remove.ensures.value
    ∙ pin_is_held (g.W.Law.allows c.self.inside.fixed.law) c.self.inside.fixed.rules h c.args.pin (vec_capacity c.self.inside.history) c.self.inside.open_feeds
    c.self.inside.books c.self.inside.waiting c.self.inside.pins (rw (← c.self.view_is) at c.requires) c.self.invariant in
    let one : cond {A = ℕ} (is_some c.remove.result) 1 0 ≡ 1 = ap (λ (b : Bool). cond {A = ℕ} b 1 0) there in
    let was = c.self.invariant.room in
    let room : length h + btree_map_len c.remove.new.self + c.self.inside.open_feeds + 1 ≤ vec_capacity c.add.new.history =
    omega (arith, was, one, c.remove.ensures.len, c.add.ensures.capacity) in
    subst P (sym c.add.ensures.items)
    (sound_released (g.W.Law.allows c.self.inside.fixed.law) c.self.inside.fixed.rules h c.args.pin
    (vec_capacity c.self.inside.history) (vec_capacity c.add.new.history) c.self.inside.open_feeds c.self.inside.books c.self.inside.waiting c.self.inside.pins c.remove.new.self
    (rw (← c.self.view_is) at c.requires) room c.remove.ensures.updates.0 c.self.invariant)

pub returns-clause-legal : goal.returns-clause-legal
returns-clause-legal g c = let sound = invariant_of-self g c in sound.legal
