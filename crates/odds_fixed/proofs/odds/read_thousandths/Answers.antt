use Rattle.std.proofs.Common.{◌∙◌, Some, None}
use Rattle.odds_fixed.proofs.Numbers.{whole_none, whole_some, units_none, with_fraction}
use Rattle.odds_fixed.proofs.odds.read_thousandths.Goals as goal

pub returns-in_err-read_number-in-None : goal.returns-in_err-read_number-in-None
returns-in_err-read_number-in-None c = c.from_residual.ensures ∙ whole_none c.args.text.now c.in-None.ensures c.in_err-read_number-in-None.ensures.value

pub returns-in_ok-read_number-in-None : goal.returns-in_ok-read_number-in-None
returns-in_ok-read_number-in-None c = whole_some c.args.text.now c.in_ok-read_number-in-None.field-0 c.in-None.ensures c.in_ok-read_number-in-None.ensures.value

pub returns-in_err-units-in-Some : goal.returns-in_err-units-in-Some
returns-in_err-units-in-Some c =
    c.from_residual-in_err-units-in-Some.ensures
    ∙ units_none c.args.text.now c.in-Some.whole.now c.in-Some.fraction.now c.in-Some.ensures c.in_err-units-in-Some.ensures.value

pub returns-in_err-parts-in-Some : goal.returns-in_err-parts-in-Some
returns-in_err-parts-in-Some c =
    c.from_residual-in_err-parts-in-Some.ensures
    ∙ with_fraction c.args.text.now c.in-Some.whole.now c.in-Some.fraction.now c.in-Some.ensures c.in_ok-units-in-Some.units None c.in_ok-units-in-Some.ensures.value c.in_err-parts-in-Some.ensures.value

pub returns-in_ok-parts-in-Some : goal.returns-in_ok-parts-in-Some
returns-in_ok-parts-in-Some c =
    with_fraction c.args.text.now c.in-Some.whole.now c.in-Some.fraction.now c.in-Some.ensures c.in_ok-units-in-Some.units (Some c.in_ok-parts-in-Some.parts) c.in_ok-units-in-Some.ensures.value c.in_ok-parts-in-Some.ensures.value
