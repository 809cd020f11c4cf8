use Rattle.std.proofs.Common.{Bool, leb, sym, ap, ◌∙◌, rules, tests}
use Rattle.std.specs.Prelude.{Option, option_and_then}
use Rattle.std.specs.Option.{option_map}
use Rattle.std.proofs.lemmas.Iterator.Adapters.{YieldsList-from_rev_slice}
use Rattle.std.proofs.lemmas.Iterator.Search.{find_from_yields_List}
use Rattle.snapshot_pins.specs.declared.value.CellValue.{CellValue}
use Rattle.snapshot_pins.proofs.cell.read_cell.Goals as goal

pub returns-in-Some : goal.returns-in-Some
returns-in-Some c =
    let test : CellValue → Bool = λ value. leb value.version c.args.version in
    let found = find_from_yields_List test _ _ c.find.result c.find.ensures.ran (YieldsList-from_rev_slice c.args.values.now cc) (λ x b q k. search (rules, tests)) in
    ap (λ (o : Option CellValue). option_and_then (λ value. value.offer) o) (sym (ap (option_map (λ y. y.now)) c.in-Some.is) ∙ found)

pub returns-in-None : goal.returns-in-None
returns-in-None c =
    let test : CellValue → Bool = λ value. leb value.version c.args.version in
    let found = find_from_yields_List test _ _ c.find.result c.find.ensures.ran (YieldsList-from_rev_slice c.args.values.now cc) (λ x b q k. search (rules, tests)) in
    ap (λ (o : Option CellValue). option_and_then (λ value. value.offer) o) (sym (ap (option_map (λ y. y.now)) c.in-None.is) ∙ found)
