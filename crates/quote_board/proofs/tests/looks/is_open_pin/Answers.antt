use Rattle.std.proofs.Common.{◌≡◌, ℕ, Some, sym, ap, ◌∙◌}
use Rattle.std.specs.Prelude.{Option, slice_get}
use Rattle.std.proofs.lemmas.Option.{get_or_from_slice_get}
use Rattle.board_definitions.specs.declared.event.Event.TheVariants.{Pinned}
use Rattle.board_definitions.specs.declared.event.Entry.{Entry}
use Rattle.quote_board.proofs.tests.looks.is_open_pin.Goals as goal

pub returns-else-is_pin_of : goal.returns-else-is_pin_of
returns-else-is_pin_of c = λ pin at by live.
    let e : Entry = record { caller = c.args.caller; event = Pinned pin.match_name } in
    let pinning : ℕ → Option Entry = λ k. Some (record { caller = k; event = Pinned pin.match_name }) in
    let pinned : slice_get c.args.history.now c.args.version ≡ Some e =
    ap (slice_get c.args.history.now) (sym at) ∙ live.pinned ∙ ap pinning by in
    c.is_pin_of.ensures pin.match_name (c.index-history-version.is ∙ get_or_from_slice_get c.args.history.now c.args.version e _ pinned)
