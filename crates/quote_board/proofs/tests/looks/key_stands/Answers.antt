use Rattle.std.proofs.Common.{Bool, false, sym, ap, ◌∙◌, rules, tests}
use Rattle.std.specs.Prelude.{Option}
use Rattle.std.specs.Option.{option_map, option_map_or}
use Rattle.std.proofs.lemmas.Iterator.Adapters.{YieldsList-from_rev_slice}
use Rattle.std.proofs.lemmas.Iterator.Search.{find_from_yields_List}
use Rattle.scan_types.specs.Selections.{selection_number}
use Rattle.board_definitions.specs.declared.event.Entry.{Entry}
use Rattle.board_definitions.specs.Entries.{is_about, is_quote}
use Rattle.quote_board.proofs.tests.looks.key_stands.Goals as goal

pub returns-in-Some : goal.returns-in-Some
returns-in-Some c =
    let key = c.args.key.now in
    let test : Entry → Bool = λ entry. is_about key.match_name key.feed (selection_number key.selection) entry.event in
    let found = find_from_yields_List test _ _ c.find.result c.find.ensures.ran (YieldsList-from_rev_slice c.args.history.now cc) (λ x b q k. search (rules, tests)) in
    c.is_a_quote.ensures
    ∙ ap (λ (o : Option Entry). option_map_or (λ (entry : Entry). is_quote entry.event) o false) (sym (ap (option_map (λ y. y.now)) c.in-Some.is) ∙ found)

pub returns-in-None : goal.returns-in-None
returns-in-None c =
    let key = c.args.key.now in
    let test : Entry → Bool = λ entry. is_about key.match_name key.feed (selection_number key.selection) entry.event in
    let found = find_from_yields_List test _ _ c.find.result c.find.ensures.ran (YieldsList-from_rev_slice c.args.history.now cc) (λ x b q k. search (rules, tests)) in
    ap (λ (o : Option Entry). option_map_or (λ (entry : Entry). is_quote entry.event) o false) (sym (ap (option_map (λ y. y.now)) c.in-None.is) ∙ found)
