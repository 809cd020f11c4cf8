use Rattle.std.proofs.Common.{List, Bool, sym, ap, ◌∙◌}
use Rattle.std.specs.Map.{set_value}
use Rattle.std.specs.Str.{bytes_eq}
use Rattle.std.proofs.lemmas.Map.Steps.{set_value_same}
use Rattle.feed_lines.proofs.Rows.{at_refusal}
use Rattle.feed_lines.proofs.standing.Standing.change.Goals as goal

pub returns-in-Some-clause-kept : goal.returns-in-Some-clause-kept
returns-in-Some-clause-kept c =
    let entries = c.args.self.now.rows.entries in
    let test = bytes_eq c.args.name.now in
    at_refusal c.change.result
    (λ same. (c.get_mut.follows.holds c.change.new.self).0
    ∙ ap (λ (row : List Bool). set_value test entries row) same
    ∙ set_value_same test entries c.in-Some.row.now (sym c.in-Some.ensures.value))
    c.change.ensures.kept
