use Rattle.std.proofs.Common.{sym, ap, ◌∙◌}
use Rattle.std.specs.Option.{option_copied}
use Rattle.snapshot_pins.proofs.Keeps.{kept_before}
use Rattle.snapshot_pins.proofs.cell.is_needed.Goals as goal

pub returns-in-Some : goal.returns-in-Some
returns-in-Some c =
    c.is_live_between.ensures
    ∙ kept_before c.args.live.now c.args.value.now c.args.later.now c.in-Some.next.now (sym c.first.ensures.value ∙ ap option_copied c.in-Some.is)
