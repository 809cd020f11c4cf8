use Rattle.std.proofs.Common.{◌≡◌, ◌∙◌, [], sym, ap, subst}
use Rattle.condensed_laws.specs.Tableaus.{CondensedTableau}
use Rattle.fraction_tableau.specs.Condensed.{IsSoundOrEmpty}
use Rattle.fraction_tableau.proofs.FilledRows.{built_is, kept_built}
use Rattle.fraction_tableau.proofs.condensed.Condensed.rebuild.Goals as goal

pub invariant_of-self-2 : goal.invariant_of-self-2
invariant_of-self-2 c =
    let program = c.args.program.now in
    let empty = c.self.view_is ∙ c.clear.ensures in
    let no_basis : c.reserve_exact.new.self.items ≡ [] = c.in_ok-reserve_exact.ensures.items ∙ ap (λ (t : CondensedTableau). t.basis) empty in
    let no_heads : c.reserve_exact-2.new.self.items ≡ [] = c.in_ok-reserve_exact-2.ensures.items ∙ ap (λ (t : CondensedTableau). t.heads) empty in
    let is = built_is program c.columns-columns.result c.rows-count.result c.fill_rows.new.rows c.push_range.new.numbers.items c.push_range-2.new.numbers.items c.reserve_exact.new.self.items c.reserve_exact-2.new.self.items
    c.columns-columns.ensures.value c.rows-count.ensures.value c.fill_rows.ensures c.push_range.ensures no_basis c.push_range-2.ensures no_heads in
    subst IsSoundOrEmpty (sym is) (kept_built program c.columns-columns.ensures.limits)
