use Rattle.std.proofs.Common.{sym, ap, ◌∙◌, rules}
use Rattle.std.specs.Option.{option_copied_mut}
use Rattle.snapshot_pins.specs.Values.{kept}
use Rattle.snapshot_pins.proofs.Changes.{cell_after, values_of_cell}
use Rattle.snapshot_pins.proofs.match_cells.keep_cell.Goals as goal

pub returns-in-Some : goal.returns-in-Some
returns-in-Some c =
    cell_after (kept c.args.live.now) c.args.cells.now _ c.args.slot (record { values = c.keep_needed.new.values }) (search rules)
    (c.keep_needed.ensures ∙ ap (λ o. kept c.args.live.now (values_of_cell o)) (sym (ap option_copied_mut c.in-Some.is) ∙ c.get_mut.ensures.value))
