use Rattle.std.proofs.Common.{[], ◌≡◌, ◌∙◌, rules}
use Rattle.std.specs.Str.{bytes_eq}
use Rattle.std.proofs.lemmas.Result.{on_err_weaker}
use Rattle.indexmap.specs.IndexMap.{get as entry_of}
use Rattle.snapshot_pins.specs.Kept.{cell_in}
use Rattle.snapshot_pins.proofs.Changes.{match_same, match_there}
use Rattle.snapshot_pins.proofs.matches.push_on.Goals as goal

pub returns-clause-unchanged : goal.returns-clause-unchanged
returns-clause-unchanged c = on_err_weaker c.push_value.result (λ stays m feed number.
    let blank : cell_in c.new.result feed number ≡ [] = search rules in
    match_same feed number c.args.matches.now _ c.args.match_name c.push_value.new.cells (search rules)
    (stays feed number ∙ match_there feed number _ (entry_of bytes_eq c.args.matches.now c.args.match_name) c.new.result c.or_insert-cells.result.now c.or_insert-cells.ensures.value c.in_ok-matches.ensures.value blank) m)
    c.push_value.ensures.unchanged
